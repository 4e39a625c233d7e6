use Rattle.std.proofs.Common.{◌≡◌, ◌+◌, ◌-◌, ◌*◌, ◌/◌, ◌<◌, ◌≤◌, ◌∙◌, ap, arith, ℕ, length, subst, inl, inr}
use Rattle.std.proofs.lemmas.Bool.{cases_lt, false≢true}
use Rattle.std.proofs.lemmas.Bool.Decides.{nat_tests}
use Rattle.memory_model.specs.Memory.{with_bytes}
use Rattle.space_mem.specs.Held.{Held, HasNoneOf, IsOutside, Owns}
use Rattle.space_mem.proofs.Kept.{keeps_memory, keeps_refl, keeps_then}
use Rattle.space_mem.proofs.memory.Mem.write_bytes.Goals as goal

-- a page that has none of the bytes is outside of the pages that have some
beside : (at count end page : ℕ) → 0 < count → at + count ≤ 4096 * end → 4096 * end < at + count + 4096 → HasNoneOf at count page → IsOutside (at / 4096) end page
beside at count end page some reach most none = elim (cases_lt page (at / 4096)) [
  | inl before ↦ inl before
  | inr from ↦ elim (cases_lt page end) [
    | inr after ↦ inr after
    | inl within ↦ elim (cases_lt at (4096 * page)) [
      | inl later ↦ absurd (none (4096 * page - at) (omega arith) (omega arith))
      | inr earlier ↦ absurd (none 0 some (omega arith))
    ]
  ]
]

-- each page that has some of the bytes is owned, where the page of each byte is
all_owned : (h : Held) (at count end page : ℕ) → 0 < count → 4096 * end < at + count + 4096 → ((k : ℕ) → k < count → Owns h ((at + k) / 4096)) → at / 4096 ≤ page → page < end → Owns h page
all_owned h at count end page some most owns from to = elim (cases_lt at (4096 * page)) [
  | inl after ↦
      let same : (at + (4096 * page - at)) / 4096 ≡ page = omega arith in
      subst (Owns h) same (owns (4096 * page - at) (omega arith))
  | inr before ↦
      let same : (at + 0) / 4096 ≡ page = omega arith in
      subst (Owns h) same (owns 0 some)
]

pub returns-in_err-own_pages-clause-idle : goal.returns-in_err-own_pages-clause-idle
returns-in_err-own_pages-clause-idle c owns =
    let some : 0 < length c.args.bytes.now = grind (arith, nat_tests, c.if-is_empty.ensures, c.is_empty.ensures) in
    absurd (false≢true (c.in_err-own_pages.ensures.idle (λ page from to. all_owned c.args.self.now c.args.at (length c.args.bytes.now) c.div_ceil-end.result page some (omega arith) owns from to)))

pub returns-in_err-own_pages-clause-in_place : goal.returns-in_err-own_pages-clause-in_place
returns-in_err-own_pages-clause-in_place c owns =
    let some : 0 < length c.args.bytes.now = grind (arith, nat_tests, c.if-is_empty.ensures, c.is_empty.ensures) in
    absurd (false≢true (c.in_err-own_pages.ensures.idle (λ page from to. all_owned c.args.self.now c.args.at (length c.args.bytes.now) c.div_ceil-end.result page some (omega arith) owns from to)))

pub returns-clause-in_place : goal.returns-clause-in_place
returns-clause-in_place c owns =
    let some : 0 < length c.args.bytes.now = grind (arith, nat_tests, c.if-is_empty.ensures, c.is_empty.ensures) in
    let write : Held → Held = λ h. record h { memory = with_bytes h.memory c.args.at c.args.bytes.now } in
    c.write_owned.ensures.held ∙ ap write (c.in_ok-own_pages.ensures.again (λ page from to. all_owned c.args.self.now c.args.at (length c.args.bytes.now) c.div_ceil-end.result page some (omega arith) owns from to))

pub returns-then-is_empty-clause-beside : goal.returns-then-is_empty-clause-beside
returns-then-is_empty-clause-beside c page none = keeps_refl c.args.self.now page

pub returns-in_err-own_pages-clause-beside : goal.returns-in_err-own_pages-clause-beside
returns-in_err-own_pages-clause-beside c page none =
    let some : 0 < length c.args.bytes.now = grind (arith, nat_tests, c.if-is_empty.ensures, c.is_empty.ensures) in
    c.in_err-own_pages.ensures.outside page (beside c.args.at (length c.args.bytes.now) c.div_ceil-end.result page some (omega arith) (omega arith) none)

pub returns-clause-beside : goal.returns-clause-beside
returns-clause-beside c page none =
    let some : 0 < length c.args.bytes.now = grind (arith, nat_tests, c.if-is_empty.ensures, c.is_empty.ensures) in
    keeps_then c.args.self.now c.own_pages.new.self c.write_owned.new.self page (c.in_ok-own_pages.ensures.outside page (beside c.args.at (length c.args.bytes.now) c.div_ceil-end.result page some (omega arith) (omega arith) none))
    (keeps_memory c.own_pages.new.self c.write_owned.new.self _ page c.write_owned.ensures.held)
