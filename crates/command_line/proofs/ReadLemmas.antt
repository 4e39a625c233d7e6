-- What the typed getters read of rows.
use Rattle.std.proofs.Common.{◌≡◌, ◌≢◌, ◌∙◌, ◌≤◌, ◌<◌, ◌^◌, ap, ℕ, Bool, true, false, List, Option, Some, None, refl, sym, cond, arith}
use Rattle.std.specs.Prelude.{Result, Ok, Err, option_and_then, option_map, unwrap_or, nat_le, ◌&&◌}
use Rattle.std.specs.Str.{bytes_eq}
use Rattle.std.proofs.lemmas.Slice.Eq.{bytes_eq-Decides}
use Rattle.std.specs.Str.Parse.{ParsesBool, ParsesUnsigned, true_text, digits_value, without_leading_plus}
use Rattle.std.proofs.lemmas.Bool.{le-leb, leb-true}
use Rattle.clap.specs.Matches.{ReadsOne, one_text}
use Rattle.clap.specs.Walk.{one_of, rows_of}
use Rattle.clap.specs.Values.{IsUnsignedIn}
use Rattle.clap.specs.ValueTests.{accepts}
use Rattle.clap.specs.declared.builder.value_parser.ValueParser.TheVariants as vp
use Rattle.clap.specs.declared.parser.matches.Found.{Found}
use Rattle.clap.proofs.ValueTestLemmas.{accepts-Accepts, Accepts-accepts}
use Rattle.clap.proofs.WalkLemmas.{both, one_text-rows}
use Rattle.command_line.specs.Line.{has_flag, number_in}

abbrev pub within : ℕ → ℕ → Option ℕ → Option ℕ
within low high None = None
within low high (Some n) = cond (nat_le low n && nat_le n high) (Some n) None

not_leb : (a b : ℕ) → b < a → nat_le a b ≡ false
not_leb a b lt = go (nat_le a b) refl
  where
    go : (x : Bool) → nat_le a b ≡ x → x ≡ false
    go false e = refl
    go true e =
        let le = leb-true _ _ e in
        absurd (omega arith)

pub within_in : (low high n : ℕ) → low ≤ n → n ≤ high → within low high (Some n) ≡ Some n
within_in low high n a b = rw (le-leb low n a, le-leb n high b) refl

pub below : (low high n : ℕ) → n < low → within low high (Some n) ≡ None
below low high n lt = rw (not_leb low n lt) refl

pub above : (low high n : ℕ) → high < n → within low high (Some n) ≡ None
above low high n lt = go (nat_le low n)
  where
    go : (b : Bool) → cond (b && nat_le n high) (Some n) None ≡ None
    go true = rw (not_leb n high lt) refl
    go false = refl

number_at : (E : Type 0) (G : List ℕ → Result ℕ E → Type 0) (low high : ℕ) (t : List ℕ) (r : Option ℕ) → high < 2 ^ 32
    → ((u : List ℕ) (x : Result ℕ E) → G u x → ParsesUnsigned 32 10 u x) → ReadsOne G t r → within low high r ≡ number_in low high t
unfolding number_in
number_at E G low high t None small only read = go (accepts false (vp.Unsigned low high) t) refl
  where
    go : (b : Bool) → accepts false (vp.Unsigned low high) t ≡ b → None ≡ cond b (Some (digits_value 10 (without_leading_plus t))) None
    go false e = refl
    go true e =
        let passed : IsUnsignedIn low high t = accepts-Accepts false (vp.Unsigned low high) t e in
        let large = passed.3 in
        absurd (only t (Err read.0) read.1 (passed.0, omega arith))
number_at E G low high t (Some n) small only read = go (nat_le low n && nat_le n high) refl (accepts false (vp.Unsigned low high) t) refl
  where
    got : ParsesUnsigned {E = E} 32 10 t (Ok n)
    got = only t (Ok n) read

    go : (a : Bool) → (nat_le low n && nat_le n high) ≡ a → (b : Bool) → accepts false (vp.Unsigned low high) t ≡ b
        → cond a (Some n) None ≡ cond b (Some (digits_value 10 (without_leading_plus t))) None
    go true x true y = ap Some got.1
    go false x false y = refl
    go true x false y =
        let ends = both _ _ x in
        let least = leb-true _ _ ends.0 in
        let most = leb-true _ _ ends.1 in
        let is = got.1 in
        let fits = got.0.1 in
        let all : IsUnsignedIn low high t = (got.0.0, omega arith, rw (← is) least, rw (← is) most) in
        let bad : true ≡ false = sym (Accepts-accepts false (vp.Unsigned low high) t all) ∙ y in
        cc
    go false x true y =
        let passed : IsUnsignedIn low high t = accepts-Accepts false (vp.Unsigned low high) t y in
        let least = passed.2 in
        let most = passed.3 in
        let bad : true ≡ false = sym (rw (le-leb low n (rw got.1 least), le-leb n high (rw got.1 most)) refl) ∙ x in
        cc

number_read : (E : Type 0) (G : List ℕ → Result ℕ E → Type 0) (low high : ℕ) (o : Option (List ℕ)) (r : Option ℕ) → high < 2 ^ 32
    → ((u : List ℕ) (x : Result ℕ E) → G u x → ParsesUnsigned 32 10 u x)
    → (o ≡ None → r ≡ None) → ((t : List ℕ) → o ≡ Some t → ReadsOne G t r) → within low high r ≡ option_and_then (number_in low high) o
number_read E G low high None r small only none value = ap (within low high) (none refl)
number_read E G low high (Some t) r small only none value = number_at E G low high t r small only (value t refl)

pub number_reads : (E : Type 0) (G : List ℕ → Result ℕ E → Type 0) (low high : ℕ) (f : Found) (id : List ℕ) (r : Option ℕ) → high < 2 ^ 32
    → ((u : List ℕ) (x : Result ℕ E) → G u x → ParsesUnsigned 32 10 u x)
    → (one_text f id ≡ None → r ≡ None) → ((t : List ℕ) → one_text f id ≡ Some t → ReadsOne G t r)
    → within low high r ≡ option_and_then (number_in low high) (one_of id (rows_of f))
number_reads E G low high f id r small only none value =
    number_read E G low high (one_text f id) r small only none value ∙ ap (option_and_then (number_in low high)) (one_text-rows f id)

-- ---- a flag

named : (t : List ℕ) (b : Bool) → bytes_eq t true_text ≡ b → (t ≡ true_text → b ≡ true) × (t ≢ true_text → b ≡ false)
named t true e = (λ _. refl, λ not_so. absurd (not_so ((bytes_eq-Decides t true_text).0 e)))
named t false e = (λ is. sym e ∙ (bytes_eq-Decides t true_text).1 is, λ _. refl)

flag_at : (E : Type 0) (t : List ℕ) (r : Option Bool) → ReadsOne (ParsesBool {E = E}) t r → unwrap_or r false ≡ bytes_eq t true_text
flag_at E t (Some true) read = sym ((named t (bytes_eq t true_text) refl).0 read)
flag_at E t (Some false) read = sym ((named t (bytes_eq t true_text) refl).1 (λ is. let both = sym read ∙ is in absurd cc))
flag_at E t None read = sym ((named t (bytes_eq t true_text) refl).1 read.1.0)

flag_read : (E : Type 0) (o : Option (List ℕ)) (r : Option Bool) → (o ≡ None → r ≡ None) → ((t : List ℕ) → o ≡ Some t → ReadsOne (ParsesBool {E = E}) t r)
    → unwrap_or r false ≡ unwrap_or (option_map (λ t. bytes_eq t true_text) o) false
flag_read E None r none value = ap (λ x. unwrap_or x false) (none refl)
flag_read E (Some t) r none value = flag_at E t r (value t refl)

pub flag_reads : (E : Type 0) (f : Found) (id : List ℕ) (r : Option Bool) → (one_text f id ≡ None → r ≡ None) → ((t : List ℕ) → one_text f id ≡ Some t → ReadsOne (ParsesBool {E = E}) t r)
    → unwrap_or r false ≡ has_flag id (rows_of f)
flag_reads E f id r none value = flag_read E (one_text f id) r none value ∙ ap (λ o. unwrap_or (option_map (λ t. bytes_eq t true_text) o) false) (one_text-rows f id)
