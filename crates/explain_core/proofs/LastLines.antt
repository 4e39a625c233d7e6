-- Lines of last own events: what endings tell stays under events of others, counts events without a line, and takes a line.
use Rattle.std.proofs.Common.{◌≡◌, ℕ, suc, ◌+◌, ◌-◌, ◌<◌, ◌≤◌, Bool, true, false, List, [], ◌∷◌, ◌++◌, append_assoc, length, length-append, take, Option, Some, None, refl, sym, ap, ap₂, ◌∙◌, subst, arith, inl, inr, ◌⊎◌, true≢false}
use Rattle.std.proofs.lemmas.Bool.Decides.{nat_tests}
use Rattle.std.proofs.lemmas.List.{append-nil}
use Rattle.std.specs.BTreeMap.{BTreeMap, UpdatesBy}
use Rattle.std.specs.Prelude.{IfSome, IsNone, IsSome, if◌then◌else◌, nat_le, option_map}
use Rattle.arrayvec.specs.ArrayVec.{ArrayVec}
use Rattle.space_model.specs.Path.{at}
use Rattle.space_model.specs.Space.{Space, Top, top_of}
use Rattle.run_model.specs.Replay.{replay}
use Rattle.run_model.specs.Schedule.{is_enabled, try_step}
use Rattle.det_laws.specs.Tops.{top_at}
use Rattle.event_laws.specs.OwnEvents.{OwnEvent, own_events}
use Rattle.event_laws.proofs.Histories.{event_there}
use Rattle.explain_core.specs.declared.last_lines.Ending.{Ending}
use Rattle.explain_core.specs.declared.last_lines.NextLine.TheVariants.{Line, Quiet, Over}
use Rattle.explain_core.specs.declared.watching.Before.{Before}
use Rattle.explain_core.specs.declared.watching.Found.{Found}
use Rattle.explain_core.specs.declared.watching.Moment.{Moment}
use Rattle.explain_core.specs.declared.watching.Watched.{Watched}
use Rattle.explain_core.specs.LastLines.{AreFresh, Becomes, CountsMore, Endings, FindsAt, FindsTop, GoesAlone, GoesWithLine, HasAll, HasLine, IsLineOf, LeavesLine, MayCount, TellsEndings, TellsOf, next_line}
use Rattle.explain_core.specs.Reached.{IsTrace}
use Rattle.explain_core.specs.Instructions.{instruction_at_pc}
use Rattle.explain_core.specs.Trace.{calling_memory, trace_lines, traced_line}
use Rattle.explain_core.specs.TurnsAt.{TurnsAt}
use Rattle.explain_core.specs.WatchList.{entry_at}
use Rattle.explain_core.proofs.Coming.{first_own}
use Rattle.explain_core.proofs.LinksTell.{own_stays, own_then}
use Rattle.explain_core.proofs.Schedules.{replay_parts, whole}
use Rattle.explain_core.proofs.NotedPaths.{path_cmp}
use Rattle.explain_core.proofs.TurnsAt.{cases_path, other_path, own_here, same_itself, stepped_to}
use Rattle.explain_core.proofs.WatchLists.{entry_elsewhere, entry_here}

-- ---- lines

abbrev its_line : List ℕ → ℕ → ℕ → OwnEvent → List ℕ
its_line p from k e = let b = e.before in if nat_le from (suc k) then traced_line p (suc k) b.registers (instruction_at_pc b) (calling_memory b) e.after else []

lines_then : (p : List ℕ) (from k : ℕ) (xs ys : List OwnEvent) → trace_lines p from k (xs ++ ys) ≡ trace_lines p from k xs ++ trace_lines p from (k + length xs) ys
lines_then p from k [] ys = let same : k ≡ k + 0 = omega arith in ap (λ n. trace_lines p from n ys) same
lines_then p from k (x ∷ xs) ys =
    let next : suc k + length xs ≡ k + length (x ∷ xs) = omega arith in
    ap (λ t. its_line p from k x ++ t) (lines_then p from (suc k) xs ys ∙ ap (λ n. trace_lines p from (suc k) xs ++ trace_lines p from n ys) next)
    ∙ sym (append_assoc (its_line p from k x) (trace_lines p from (suc k) xs) (trace_lines p from (k + length (x ∷ xs)) ys))

-- before the first that has a line
no_lines : (p : List ℕ) (from k : ℕ) (xs : List OwnEvent) → k + length xs < from → trace_lines p from k xs ≡ []
no_lines p from k [] early = refl
no_lines p from k (x ∷ xs) early =
    let no : nat_le from (suc k) ≡ false = grind (arith, nat_tests) in
    rw no (no_lines p from (suc k) xs (omega (arith, early)))

-- ---- an ending behind more events

adds : (p : List ℕ) (xs ys : List OwnEvent) (d e : Ending) → e.count ≡ d.count → e.had ≡ d.had + length ys → e.lines.items ≡ d.lines.items ++ trace_lines p (d.count - 1) d.had ys → TellsOf p xs d → TellsOf p (xs ++ ys) e
adds p xs ys d e count had lines t =
    let before = t.had in
    let here : d.had ≡ 0 + length xs = omega (arith, before) in
    record {
      had = length-append xs ys ∙ ap (λ n. n + length ys) t.had ∙ sym had;
      lines = lines
          ∙ ap₂ (λ u n. u ++ trace_lines p (d.count - 1) n ys) t.lines here
          ∙ sym (lines_then p (d.count - 1) 0 xs ys)
          ∙ ap (λ n. trace_lines p (n - 1) 0 (xs ++ ys)) (sym count);
    }

-- behind events without a line
counts : (p : List ℕ) (n : ℕ) (ys : List OwnEvent) (d e : Ending) → length ys ≡ n → CountsMore n d e → MayCount n d → (xs : List OwnEvent) → TellsOf p xs d → TellsOf p (xs ++ ys) e
counts p n ys d e long more may xs t =
    adds p xs ys d e more.count (more.had ∙ ap (λ k. d.had + k) (sym long)) (more.lines ∙ sym (append-nil d.lines.items) ∙ ap (λ u. d.lines.items ++ u) (sym (none ys long))) t
  where
    none : (zs : List OwnEvent) → length zs ≡ n → trace_lines p (d.count - 1) d.had zs ≡ []
    none [] is = refl
    none (z ∷ zs) is =
        let some : 0 < n = omega (arith, is) in
        let fits = may some in
        no_lines p (d.count - 1) d.had (z ∷ zs) (omega (arith, is, fits))

-- behind an event with a line
takes : (p : List ℕ) (number : ℕ) (line : List ℕ) (v : OwnEvent) (d e : Ending) → trace_lines p 0 (number - 1) (v ∷ []) ≡ line → number ≡ d.had + 1 → d.count ≤ d.had + 2 → HasLine line d e → (xs : List OwnEvent) → TellsOf p xs d → TellsOf p (xs ++ v ∷ []) e
takes p number line v d e told is late has xs t =
    let here : number - 1 ≡ d.had = omega (arith, is) in
    let yes : nat_le (d.count - 1) (suc d.had) ≡ true = grind (arith, nat_tests) in
    let all : nat_le 0 (suc d.had) ≡ true = grind (arith, nat_tests) in
    let same : trace_lines p (d.count - 1) d.had (v ∷ []) ≡ trace_lines p 0 d.had (v ∷ []) = rw (yes, all) refl in
    adds p xs (v ∷ []) d e has.count has.had (has.lines ∙ ap (λ u. d.lines.items ++ u) (sym told ∙ ap (λ n. trace_lines p 0 n (v ∷ [])) here ∙ sym same)) t

-- ---- a tree that goes on by events of one path

goes_on : (root s now : Space) (p : List ℕ) (own : List OwnEvent) (old new : Endings) → GoesAlone p own s now → Becomes p (λ d e. (xs : List OwnEvent) → TellsOf p xs d → TellsOf p (xs ++ own) e) old new → TellsEndings root old s → TellsEndings root new now
goes_on root s now p own old new g b a = record {
  schedule = a.schedule ++ g.schedule;
  leads = replay_parts a.schedule g.schedule 8 root ∙ ap (replay g.schedule 8) a.leads ∙ g.leads;
  each = λ q. go q (cases_path q p);
}
  where
    here : (o : Option Ending) → entry_at new p ≡ o → IfSome o (TellsOf p (own_events p (a.schedule ++ g.schedule) root))
    here None is = tt
    here (Some e) is =
        let h = b.here e is in
        subst (λ es. TellsOf p es e) (sym (own_then root p a.schedule g.schedule ∙ ap (λ es. own_events p a.schedule root ++ es) (ap (own_events p g.schedule) a.leads ∙ g.events)))
        (h.2 (own_events p a.schedule root) (subst (λ o. IfSome o (TellsOf p (own_events p a.schedule root))) h.1 (a.each p)))

    go : (q : List ℕ) → (q ≡ p) ⊎ (q ≡ p → ⊥) → IfSome (entry_at new q) (TellsOf q (own_events q (a.schedule ++ g.schedule) root))
    go q (inl e) = subst (λ x. IfSome (entry_at new x) (TellsOf x (own_events x (a.schedule ++ g.schedule) root))) (sym e) (here (entry_at new p) refl)
    go q (inr away) =
        subst (λ o. IfSome o (TellsOf q (own_events q (a.schedule ++ g.schedule) root))) (sym (b.others q away))
        (subst (λ es. IfSome (entry_at old q) (TellsOf q es)) (sym (own_stays root s q a.schedule g.schedule a.leads (g.others q away))) (a.each q))

so_at : (p : List ℕ) (so also : Ending → Ending → Type 0) (given : Ending → Type 0) (old new : Endings) → ((d e : Ending) → given d → so d e → also d e) → IfSome (entry_at old p) given → Becomes p so old new → Becomes p also old new
so_at p so also given old new onward may b = record {
  here = λ e is. let h = b.here e is in (h.0, h.1, onward h.0 e (subst (λ o. IfSome o given) h.1 may) h.2);
  others = b.others;
}

-- a turn is of one path alone
alone : (w : Watched) (p : List ℕ) (before count : ℕ) (last : Option Moment) (s now : Space) (t : TurnsAt 8 w p before count last s now) → GoesAlone p t.own s now
alone w p before count last s now t = record {
  schedule = t.schedule;
  leads = t.leads;
  events = sym (whole p t.schedule s) ∙ t.events;
  others = λ q away. sym (whole q t.schedule s) ∙ t.others q away;
}

-- a turn without lines
pub quietly : (s now : Space) (w : Watched) (p : List ℕ) (before n : ℕ) (last : Option Moment) (old new : Endings) → TurnsAt 8 w p before n last s now → IfSome (entry_at old p) (MayCount n) → Becomes p (CountsMore n) old new
    → (root : Space) → TellsEndings root old s → TellsEndings root new now
quietly s now w p before n last old new t may b root a =
    goes_on root s now p t.own old new (alone w p before n last s now t) (so_at p (CountsMore n) (λ d e. (xs : List OwnEvent) → TellsOf p xs d → TellsOf p (xs ++ t.own) e) (MayCount n) old new (λ d e fits more. counts p n t.own d e t.long more fits) may b) a

-- fewer may go by, too
pub fewer : (o : Option Ending) (n m : ℕ) → n ≤ m → IfSome o (MayCount m) → IfSome o (MayCount n)
fewer None n m fits may = tt
fewer (Some e) n m fits may = λ some. let h = may (omega (arith, some, fits)) in omega (arith, h, fits)

-- what is known where a line is to be kept
abbrev pub IsTold : ℕ → Ending → Type 0
IsTold number d = (number ≡ d.had + 1) × (d.had < d.count) × (d.count ≤ d.had + 2)

pub of_told : (o : Option Ending) (number : ℕ) → next_line o ≡ Line number → IfSome o (IsTold number)
of_told None number is = tt
of_told (Some d) number is = by_test (nat_le d.count d.had) refl (nat_le d.count (d.had + 2)) refl is
  where
    by_test : (b : Bool) → nat_le d.count d.had ≡ b → (c : Bool) → nat_le d.count (d.had + 2) ≡ c → (if b then Over else if c then Line (d.had + 1) else Quiet) ≡ Line number → IsTold number d
    by_test true first c second is = cc
    by_test false first true second is = let same : d.had + 1 ≡ number = cc in (sym same, grind (arith, nat_tests), grind (arith, nat_tests))
    by_test false first false second is = cc

pub of_quiet : (o : Option Ending) → next_line o ≡ Quiet → IfSome o (MayCount 1)
of_quiet None is = tt
of_quiet (Some d) is = by_test (nat_le d.count d.had) refl (nat_le d.count (d.had + 2)) refl is
  where
    by_test : (b : Bool) → nat_le d.count d.had ≡ b → (c : Bool) → nat_le d.count (d.had + 2) ≡ c → (if b then Over else if c then Line (d.had + 1) else Quiet) ≡ Quiet → MayCount 1 d
    by_test true first c second is = cc
    by_test false first true second is = cc
    by_test false first false second is = λ some. grind (arith, nat_tests)

pub next_over : (o : Option Ending) (e : Ending) → Some e ≡ o → e.count ≤ e.had → Over ≡ next_line o
next_over o e is over = let yes : nat_le e.count e.had ≡ true = grind (arith, nat_tests) in subst (λ r. Over ≡ next_line r) is (rw yes refl)

pub next_told : (o : Option Ending) (e : Ending) → Some e ≡ o → e.had < e.count → e.count - e.had ≤ 2 → Line (e.had + 1) ≡ next_line o
next_told o e is more late =
    let near : e.count ≤ e.had + 2 = omega (arith, late) in
    let no : nat_le e.count e.had ≡ false = grind (arith, nat_tests) in
    let yes : nat_le e.count (e.had + 2) ≡ true = grind (arith, nat_tests) in
    subst (λ r. Line (e.had + 1) ≡ next_line r) is (rw (no, yes) refl)

pub next_quiet : (o : Option Ending) (e : Ending) → Some e ≡ o → e.had < e.count → 2 < e.count - e.had → Quiet ≡ next_line o
next_quiet o e is more early =
    let far : e.had + 2 < e.count = omega (arith, early) in
    let no : nat_le e.count e.had ≡ false = grind (arith, nat_tests) in
    let also : nat_le e.count (e.had + 2) ≡ false = grind (arith, nat_tests) in
    subst (λ r. Quiet ≡ next_line r) is (rw (no, also) refl)

pub some_told : (o : Option Ending) (number : ℕ) → IfSome o (IsTold number) → IfSome o (λ d. d.had < d.count)
some_told None number is = tt
some_told (Some d) number is = is.1

pub number_some : (o : Option Ending) (number : ℕ) → next_line o ≡ Line number → 1 ≤ number
number_some None number is = cc
number_some (Some d) number is = let h = of_told (Some d) number is in let same = h.0 in omega (arith, same)

-- an event with a line
pub with_line : (s now : Space) (p : List ℕ) (number : ℕ) (line : List ℕ) (old new : Endings) → next_line (entry_at old p) ≡ Line number → GoesWithLine p number line s now → Becomes p (HasLine line) old new
    → (root : Space) → TellsEndings root old s → TellsEndings root new now
with_line s now p number line old new is g b root a =
    goes_on root s now p (g.event ∷ []) old new g.goes
    (so_at p (HasLine line) (λ d e. (xs : List OwnEvent) → TellsOf p xs d → TellsOf p (xs ++ g.event ∷ []) e) (IsTold number) old new (λ d e told has. takes p number line g.event d e g.told told.0 told.2 has) (of_told (entry_at old p) number is) b) a

-- ---- a map with another ending at one path

same_ending : {d e : Ending} → Some d ≡ Some e → d ≡ e
same_ending is = cc

pub becomes : (m n : BTreeMap (ArrayVec ℕ) Ending) (k : ArrayVec ℕ) (d e : Ending) (so : Ending → Ending → Type 0) → UpdatesBy path_cmp (path_cmp k) m n (Some e) → Some d ≡ entry_at m.entries k.items → so d e → Becomes k.items so m.entries n.entries
becomes m n k d e so updates there is = record {
  here = λ x at. (d, sym there, subst (so d) (same_ending (sym (entry_here m n k e updates) ∙ at)) is);
  others = entry_elsewhere m n k e updates;
}

pub becomes_none : (p : List ℕ) (old new : Endings) (so : Ending → Ending → Type 0) → new ≡ old → None ≡ entry_at old p → Becomes p so old new
becomes_none p old new so same none = record {
  here = λ x at. let gone = none ∙ ap (λ es. entry_at es p) (sym same) ∙ at in cc;
  others = λ q away. ap (λ es. entry_at es q) same;
}

-- ---- an event and its line

same_top : {x y : Top} → Some x ≡ Some y → x ≡ y
same_top e = cc

-- of what was found before an event, and of what is there after it
line_of_event : (p : List ℕ) (number : ℕ) (line : List ℕ) (s now : Space) (b : Before) → 1 ≤ number → is_enabled p 8 s ≡ true → now ≡ try_step p 8 s → FindsAt p s b → LeavesLine p number b line now → GoesWithLine p number line s now
line_of_event p number line s now f some may stepped (t, first, finds) (r, second, is) =
    let u = top_of r in
    let here = own_here p s may in
    let e = here.0 in
    let own = here.1 in
    let h = event_there p 8 s e own in
    let was : t ≡ e.before = same_top (first ∙ h.1) in
    let after : u ≡ e.after = same_top (sym (ap (option_map top_of) second) ∙ ap (top_at p) (sym (stepped_to p s now may stepped)) ∙ h.2) in
    let all : nat_le 0 (suc (number - 1)) ≡ true = grind (arith, nat_tests) in
    let number_is : suc (number - 1) ≡ number = omega (arith, some) in
    let b = e.before in
    let its_own : trace_lines p 0 (number - 1) (e ∷ []) ≡ traced_line p (suc (number - 1)) b.registers (instruction_at_pc b) (calling_memory b) e.after =
    rw all (append-nil (traced_line p (suc (number - 1)) b.registers (instruction_at_pc b) (calling_memory b) e.after)) in
    let told : trace_lines p 0 (number - 1) (e ∷ []) ≡ traced_line p number b.registers (instruction_at_pc b) (calling_memory b) e.after =
    its_own ∙ ap (λ n. traced_line p n b.registers (instruction_at_pc b) (calling_memory b) e.after) number_is in
    let text : line ≡ traced_line p number t.registers (instruction_at_pc t) (calling_memory t) u =
    is ∙ ap₂ (λ (g : Found) o. traced_line p number g.registers g.instruction o u) finds.0 finds.1 in
    record {
      event = e;
      goes = record {
        schedule = p ∷ [];
        leads = sym stepped;
        events = rw (same_itself p, own) refl;
        others = λ q away. rw (other_path q p away) refl;
      };
      told = told ∙ ap₂ (λ (x y : Top). traced_line p number x.registers (instruction_at_pc x) (calling_memory x) y) (sym was) (sym after) ∙ sym text;
    }

pub some_line : {X : Type 0} (bytes : X → List ℕ) (o : Option X) (p : List ℕ) (number : ℕ) (s now : Space) (b : Before) → 1 ≤ number → is_enabled p 8 s ≡ true → now ≡ try_step p 8 s → FindsAt p s b → IfSome o (λ line. LeavesLine p number b (bytes line) now)
    → IfSome o (λ line. GoesWithLine p number (bytes line) s now)
some_line bytes None p number s now b some may stepped finds leaves = tt
some_line bytes (Some line) p number s now b some may stepped finds leaves = line_of_event p number (bytes line) s now b some may stepped finds leaves

pub line_there : {X : Type 0} (bytes : X → List ℕ) (o : Option X) (p : List ℕ) (number : ℕ) (b : Before) (c now : Space) (u : Top) → at p now ≡ Some c → u ≡ top_of c → IfSome o (λ line. IsLineOf p number b u (bytes line)) → IfSome o (λ line. LeavesLine p number b (bytes line) now)
line_there bytes None p number b c now u there top is = tt
line_there bytes (Some line) p number b c now u there top is = (c, there, subst (λ t. IsLineOf p number b t (bytes line)) top is)

pub not_none : {X : Type 0} (o : Option X) → IsSome o → IsNone o → ⊥
not_none o some none = true≢false (sym some ∙ none)

pub finds_at : (o : Option Before) (b : Before) (p : List ℕ) (s now : Space) → o ≡ Some b → now ≡ s → IfSome o (FindsAt p s) → FindsAt p now b
finds_at o b p s now is same finds = subst (λ t. FindsAt p t b) (sym same) (subst (λ r. IfSome r (FindsAt p s)) is finds)

pub finds_there : (o : Option Before) (p : List ℕ) (s : Space) (t : Top) → Some t ≡ option_map top_of (at p s) → IfSome o (FindsTop t) → IfSome o (FindsAt p s)
finds_there None p s t there finds = tt
finds_there (Some b) p s t there finds = (t, there, finds)

-- ---- at first, and in the end

pub at_first : (root : Space) (es : Endings) → AreFresh es → TellsEndings root es root
at_first root es fresh = record { schedule = []; leads = refl; each = λ q. go q (entry_at es q) (fresh q) }
  where
    go : (q : List ℕ) (o : Option Ending) → IfSome o (λ e. (e.had ≡ 0) × (e.lines.items ≡ [])) → IfSome o (TellsOf q [])
    go q None h = tt
    go q (Some e) h = record { had = sym h.0; lines = h.1 }

pub none_fresh : (es : Endings) → es ≡ [] → AreFresh es
none_fresh es none q = subst (λ xs. IfSome (entry_at xs q) (λ e. (e.had ≡ 0) × (e.lines.items ≡ []))) (sym none) tt

pub one_fresh : (m n : BTreeMap (ArrayVec ℕ) Ending) (k : ArrayVec ℕ) (e : Ending) → UpdatesBy path_cmp (path_cmp k) m n (Some e) → e.had ≡ 0 → e.lines.items ≡ [] → AreFresh m.entries → AreFresh n.entries
one_fresh m n k e updates none empty fresh q = go (cases_path q k.items)
  where
    go : (q ≡ k.items) ⊎ (q ≡ k.items → ⊥) → IfSome (entry_at n.entries q) (λ d. (d.had ≡ 0) × (d.lines.items ≡ []))
    go (inl is) = subst (λ o. IfSome o (λ d. (d.had ≡ 0) × (d.lines.items ≡ []))) (sym (ap (entry_at n.entries) is ∙ entry_here m n k e updates)) (none, empty)
    go (inr away) = subst (λ o. IfSome o (λ d. (d.had ≡ 0) × (d.lines.items ≡ []))) (sym (entry_elsewhere m n k e updates q away)) (fresh q)

pub its_trace : (root now : Space) (p : List ℕ) (count : ℕ) (text : List ℕ) (es : Endings) → HasAll p count text es → TellsEndings root es now → IsTrace root p (count - 1) count text
its_trace root now p count text es (e, there, had, is, lines) a ps ended =
    let own = own_events p a.schedule root in
    let t : TellsOf p own e = subst (λ o. IfSome o (TellsOf p own)) there (a.each p) in
    let first = first_own root now p own (record { schedule = a.schedule; leads = a.leads; events = whole p a.schedule root }) ps ended in
    sym lines
    ∙ t.lines
    ∙ ap (λ n. trace_lines p (n - 1) 0 own) is
    ∙ ap (trace_lines p (count - 1) 0) (sym first ∙ ap (λ n. take n (own_events p ps root)) (t.had ∙ had))

pub some_trace : {X : Type 0} (bytes : X → List ℕ) (o : Option X) (p : List ℕ) (count : ℕ) (es : Endings) (now : Space) (comes : Space → Type 0) → ((root : Space) → comes root → TellsEndings root es now) → IfSome o (λ v. HasAll p count (bytes v) es)
    → IfSome o (λ v. (root : Space) → comes root → IsTrace root p (count - 1) count (bytes v))
some_trace bytes None p count es now comes on has = tt
some_trace bytes (Some v) p count es now comes on has = λ root c. its_trace root now p count (bytes v) es has (on root c)
