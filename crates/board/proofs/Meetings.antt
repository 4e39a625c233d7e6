-- A caller and its children, brought together: which entries lead there, and where each space stands since.
use Rattle.std.proofs.Common.{◌≡◌, ◌≢◌, ℕ, pred, ◌+◌, ◌<◌, ◌≤◌, ◌==◌, ◌||◌, nat_lt, Bool, true, false, List, [], ◌∷◌, ◌++◌, length, Option, Some, None, ◌⊎◌, inl, inr, refl, sym, ap, ◌∙◌, subst, arith, true≢false}
use Rattle.std.proofs.lemmas.Bool.{cases_eq}
use Rattle.std.proofs.lemmas.Bool.Decides.{nat_tests}
use Rattle.std.proofs.lemmas.List.Elements.{All-nil, All-cons, All-head, All-tail}
use Rattle.std.specs.List.{All}
use Rattle.std.specs.Prelude.{option_and_then}
use Rattle.arrayvec.specs.ArrayVec.{ArrayVec}
use Rattle.call_model.specs.declared.Call.{Call}
use Rattle.call_model.specs.declared.Call.TheVariants.{Put, PutTree, Get, GetTree, Ret, ConsoleOut, ConsoleIn, Clock, Random, Fork, Wait, Tfork, Tjoin, Qstart, Qcommit, File}
use Rattle.space_model.specs.Space.{Space, top_of, children_of, find}
use Rattle.space_model.specs.Event.{next}
use Rattle.space_model.specs.Meeting.{awaits}
use Rattle.space_model.specs.PathOrder.{IsBefore}
use Rattle.space_model.specs.declared.Await.{Await}
use Rattle.run_model.specs.Schedule.{call_at, is_enabled, is_local_at, on_child, step}
use Rattle.parcel_model.specs.Nodes.{node_of}
use Rattle.node_places.specs.Places.{Places, place_of, home, HasGone, IsAbove}
use Rattle.det_core.specs.declared.entry.Entry.{Entry}
use Rattle.det_core.specs.declared.entry.Entry.TheVariants.{Ran, Moved, Met}
use Rattle.det_core.specs.Legal.{AreCopied, has_stopped, IsAtHome, IsHomeOfFirst, Leads, MeetsAt, replaced}
use Rattle.det_core.proofs.Legal.{leads-append, leads-one}
use Rattle.det_laws.specs.Near.{is_awaited, IsAwaitedBelow, IsOnWay}
use Rattle.det_laws.proofs.Commutes.{awaited_settled, settled_rests}
use Rattle.det_laws.proofs.Frames.{is_awaited_whole}
use Rattle.det_laws.proofs.Near.{local_enabled, ready_found}
use Rattle.path_set.specs.Paths.{Paths, Has, IsTakenFrom}
use Rattle.board.specs.Gathering.{AreAway, BroughtHome, HasGoneIf, HasMetBy, IsBeside, IsHomeOrAway, IsMoveHome, MeetsOn}
use Rattle.board.specs.Steps.{ComesHome, IsCallersMove, MovesBefore}
use Rattle.board.proofs.Kept.{path_cases, way_itself}
use Rattle.board.proofs.Ways.{awaited_path, length_one_more}

-- ---- what a call replaces has settled

-- the child at which it begins is awaited whole
whole_named : (k : Call) (n : ℕ) (r : List ℕ) → replaced k ≡ Some (n ∷ r) → is_awaited_whole n (awaits k) ≡ true
whole_named (PutTree child from to) n r is = let same : child ≡ n = cc in here child n from same
  where
    here : (child n from : ℕ) → child ≡ n → is_awaited_whole n (awaits (PutTree child from 0)) ≡ true
    here child n from e = grind (arith, nat_tests)
whole_named (GetTree child from to) n r is = let same : to ≡ n = cc in here child n to same
  where
    here : (child n to : ℕ) → to ≡ n → is_awaited_whole n (awaits (GetTree child 0 to)) ≡ true
    here child n to e = grind (arith, nat_tests)
whole_named (Wait child) n r is = let same : child ≡ n = cc in here child n same
  where
    here : (child n : ℕ) → child ≡ n → is_awaited_whole n (awaits (Wait child)) ≡ true
    here child n e = grind (arith, nat_tests)
whole_named (Put x) n r is = cc
whole_named (Get x) n r is = cc
whole_named (Ret value) n r is = cc
whole_named (ConsoleOut addr len) n r is = cc
whole_named (ConsoleIn addr len) n r is = cc
whole_named Clock n r is = cc
whole_named Random n r is = cc
whole_named (Fork child) n r is = cc
whole_named (Tfork child) n r is = cc
whole_named (Tjoin child) n r is = cc
whole_named (Qstart first count quantum) n r is = cc
whole_named (Qcommit first count) n r is = cc
whole_named (File call) n r is = cc

not_empty : (k : Call) → replaced k ≡ Some [] → ⊥
not_empty (PutTree child from to) is = cc
not_empty (GetTree child from to) is = cc
not_empty (Wait child) is = cc
not_empty (Put x) is = cc
not_empty (Get x) is = cc
not_empty (Ret value) is = cc
not_empty (ConsoleOut addr len) is = cc
not_empty (ConsoleIn addr len) is = cc
not_empty Clock is = cc
not_empty Random is = cc
not_empty (Fork child) is = cc
not_empty (Tfork child) is = cc
not_empty (Tjoin child) is = cc
not_empty (Qstart first count quantum) is = cc
not_empty (Qcommit first count) is = cc
not_empty (File call) is = cc

-- so nothing goes on there
rests_below : (r p : List ℕ) (levels : ℕ) (s : Space) (k : Call) → replaced k ≡ Some r → call_at [] levels s ≡ Some k → IsAbove r p → is_enabled p levels s ≡ true → ⊥
rests_below [] p levels s k is may above goes = not_empty k is
rests_below (n ∷ r) [] levels s k is may above goes = above
rests_below (n ∷ r) (m ∷ p) levels s k is may above goes = go (find n (children_of s)) refl (subst (λ i. on_child (is_enabled p (pred levels)) (find i (children_of s)) ≡ true) (sym above.0) goes)
  where
    go : (o : Option Space) → find n (children_of s) ≡ o → on_child (is_enabled p (pred levels)) o ≡ true → ⊥
    go None found on = true≢false (sym on)
    go (Some c) found on =
        let ready = ready_found (next levels (top_of s)) (children_of s) k may in
        settled_rests p (pred levels) c (awaited_settled (awaits k) n (children_of s) c (whole_named k n r is) ready.2 found) on

replaced_rests : (q r p : List ℕ) (levels : ℕ) (s : Space) (k : Call) → replaced k ≡ Some r → call_at q levels s ≡ Some k → IsAbove (q ++ r) p → is_enabled p levels s ≡ true → ⊥
replaced_rests [] r p levels s k is may above goes = rests_below r p levels s k is may above goes
replaced_rests (m ∷ q) r [] levels s k is may above goes = above
replaced_rests (m ∷ q) r (n ∷ p) levels s k is may above goes =
    go (find m (children_of s)) may (subst (λ i. on_child (is_enabled p (pred levels)) (find i (children_of s)) ≡ true) (sym above.0) goes) (λ c met on. replaced_rests q r p (pred levels) c k is met above.1 on)
  where
    go : (o : Option Space) → option_and_then (call_at q (pred levels)) o ≡ Some k → on_child (is_enabled p (pred levels)) o ≡ true
        → ((c : Space) → call_at q (pred levels) c ≡ Some k → is_enabled p (pred levels) c ≡ true → ⊥) → ⊥
    go None met on rec = true≢false (sym on)
    go (Some c) met on rec = rec c met on

-- a space that goes on stands beside what is replaced
pub goes_beside : (q p : List ℕ) (s : Space) (k : Call) → call_at q 8 s ≡ Some k → is_local_at p 8 s ≡ true → IsBeside q (replaced k) p
goes_beside q p s k may goes = go (replaced k) refl
  where
    go : (o : Option (List ℕ)) → replaced k ≡ o → IsBeside q o p
    go None is = tt
    go (Some r) is = λ above. replaced_rests q r p 8 s k is may above (local_enabled p 8 s goes)

-- ---- paths

long_above : (q r p : List ℕ) → IsAbove (q ++ r) p → length q + length r ≤ length p
long_above [] [] p above = omega arith
long_above [] (n ∷ r) [] above = absurd above
long_above [] (n ∷ r) (m ∷ p) above = let rest = long_above [] r p above.1 in omega (arith, rest)
long_above (n ∷ q) r [] above = absurd above
long_above (n ∷ q) r (m ∷ p) above = let rest = long_above q r p above.1 in omega (arith, rest)

long_way : (p q : List ℕ) → IsOnWay p q → length p ≤ length q
long_way [] q way = omega arith
long_way (n ∷ p) [] way = absurd way
long_way (n ∷ p) (m ∷ q) way = let rest = long_way p q way.1 in omega (arith, rest)

long_below : (all : List Await) (p q : List ℕ) → IsAwaitedBelow all p q → length p ≡ length q + 1
long_below all [] [] below = absurd below
long_below all (n ∷ []) [] below = refl
long_below all (n ∷ m ∷ p) [] below = absurd below
long_below all [] (m ∷ q) below = absurd below
long_below all (n ∷ p) (m ∷ q) below = let rest = long_below all p q below.1 in omega (arith, rest)

-- what is replaced is below the caller: the caller, and what stands above it, are beside it
pub way_beside : (p q : List ℕ) (k : Call) → IsOnWay p q → IsBeside q (replaced k) p
way_beside p q k way = go (replaced k) refl
  where
    go : (o : Option (List ℕ)) → replaced k ≡ o → IsBeside q o p
    go None is = tt
    go (Some []) is = absurd (not_empty k is)
    go (Some (n ∷ r)) is = λ above. let a = long_above q (n ∷ r) p above in let b = long_way p q way in omega (arith, a, b)

pub way_not_below : (all : List Await) (p q : List ℕ) → IsOnWay p q → IsAwaitedBelow all p q → ⊥
way_not_below all p q way below = let a = long_below all p q below in let b = long_way p q way in omega (arith, a, b)

child_below : (all : List Await) (q : List ℕ) (n : ℕ) → is_awaited n all ≡ true → IsAwaitedBelow all (q ++ n ∷ []) q
child_below all [] n is = is
child_below all (m ∷ q) n is = (refl, child_below all q n is)

not_itself : (all : List Await) (p q : List ℕ) → IsAwaitedBelow all p q → p ≢ q
not_itself all p q below e = let a = long_below all p q below in let b = ap length e in omega (arith, a, b)

pub has_cases : (ps : Paths) (q : List ℕ) → Has ps q ⊎ (Has ps q → ⊥)
has_cases [] q = inr (λ h. h)
has_cases (p ∷ ps) q = go (path_cases q p) (has_cases ps q)
  where
    go : (q ≡ p) ⊎ (q ≡ p → ⊥) → Has ps q ⊎ (Has ps q → ⊥) → Has (p ∷ ps) q ⊎ (Has (p ∷ ps) q → ⊥)
    go (inl e) c = inl (inl e)
    go (inr ne) (inl has) = inl (inr has)
    go (inr ne) (inr away) = inr (λ h. both h)
      where
        both : Has (p ∷ ps) q → ⊥
        both (inl e) = ne e
        both (inr has) = away has

above_cases : (p q : List ℕ) → IsAbove p q ⊎ (IsAbove p q → ⊥)
above_cases [] q = inl tt
above_cases (n ∷ p) [] = inr (λ a. a)
above_cases (n ∷ p) (m ∷ q) = go (cases_eq n m) (above_cases p q)
  where
    go : (n ≡ m) ⊎ (n ≡ m → ⊥) → IsAbove p q ⊎ (IsAbove p q → ⊥) → IsAbove (n ∷ p) (m ∷ q) ⊎ (IsAbove (n ∷ p) (m ∷ q) → ⊥)
    go (inl e) (inl a) = inl (e, a)
    go (inl e) (inr f) = inr (λ a. f a.1)
    go (inr f) c = inr (λ a. f a.0)

-- ---- spaces come home

-- none of them
pub none_home : (ps : Places) (es : List Entry) (away : Paths) → away ≡ [] → BroughtHome away ps ps es es
none_home ps es away none = record {
  moves = [];
  items = sym (append-nil_of es);
  led = λ s. (refl, refl);
  here = λ q has. absurd (subst (λ xs. Has xs q) none has);
  others = λ q not. refl;
  nodes = refl;
  are = All-nil (IsMoveHome ps.nodes away);
  order = tt;
}
  where
    append-nil_of : (es : List Entry) → es ++ [] ≡ es
    append-nil_of [] = refl
    append-nil_of (e ∷ es) = ap (λ x. e ∷ x) (append-nil_of es)

append-assoc_of : (es : List Entry) (e : Entry) (fs : List Entry) → (es ++ e ∷ []) ++ fs ≡ es ++ e ∷ fs
append-assoc_of [] e fs = refl
append-assoc_of (d ∷ es) e fs = ap (λ x. d ∷ x) (append-assoc_of es e fs)

more_home : (nodes nodes' : ℕ) (away rest : Paths) (es : List Entry) → nodes' ≡ nodes → ((q : List ℕ) → Has rest q → Has away q) → All (IsMoveHome nodes' rest) es → All (IsMoveHome nodes away) es
more_home nodes nodes' away rest [] same more all = All-nil (IsMoveHome nodes away)
more_home nodes nodes' away rest (Ran p n ∷ es) same more all = absurd (All-head (IsMoveHome nodes' rest) (Ran p n) es all)
more_home nodes nodes' away rest (Moved p node ∷ es) same more all =
    let here = All-head (IsMoveHome nodes' rest) (Moved p node) es all in
    All-cons (IsMoveHome nodes away) (Moved p node) es (more p.items here.0, here.1 ∙ ap (λ n. home n p.items) same) (more_home nodes nodes' away rest es same more (All-tail (IsMoveHome nodes' rest) (Moved p node) es all))
more_home nodes nodes' away rest (Met p ∷ es) same more all = absurd (All-head (IsMoveHome nodes' rest) (Met p) es all)

all_before : (nodes : ℕ) (rest : Paths) (p : List ℕ) (es : List Entry) → ((q : List ℕ) → Has rest q → IsBefore p q) → All (IsMoveHome nodes rest) es → All (MovesBefore p) es
all_before nodes rest p [] behind all = All-nil (MovesBefore p)
all_before nodes rest p (Ran q n ∷ es) behind all = absurd (All-head (IsMoveHome nodes rest) (Ran q n) es all)
all_before nodes rest p (Moved q node ∷ es) behind all = let here = All-head (IsMoveHome nodes rest) (Moved q node) es all in All-cons (MovesBefore p) (Moved q node) es (behind q.items here.0) (all_before nodes rest p es behind (All-tail (IsMoveHome nodes rest) (Moved q node) es all))
all_before nodes rest p (Met q ∷ es) behind all = absurd (All-head (IsMoveHome nodes rest) (Met q) es all)

-- the first of them, and then the others
pub one_home : (ps qs rs : Places) (es fs gs : List Entry) (away rest : Paths) (child : ArrayVec ℕ) (node : ℕ) → IsTakenFrom child.items away rest → HasGone child.items (home ps.nodes child.items) ps qs → node ≡ home ps.nodes child.items
    → node < ps.nodes → fs ≡ es ++ Moved child node ∷ [] → BroughtHome rest qs rs fs gs → BroughtHome away ps rs es gs
one_home ps qs rs es fs gs away rest child node taken gone is below items brought = record {
  moves = Moved child node ∷ brought.moves;
  items = brought.items ∙ ap (λ xs. xs ++ brought.moves) items ∙ append-assoc_of es (Moved child node) brought.moves;
  led = λ s. (s, qs, record { now = refl; there = below; gone = subst (λ n. HasGone child.items n ps qs) (sym is) gone }, brought.led s);
  here = λ q has. by q (subst (λ xs. Has xs q) taken.first has);
  others = λ q not. brought.others q (λ has. not (later q has)) ∙ gone.others q (λ e. not (first q e));
  nodes = brought.nodes ∙ gone.nodes;
  are = All-cons (IsMoveHome ps.nodes away) (Moved child node) brought.moves (first child.items refl, is) (more_home ps.nodes qs.nodes away rest brought.moves gone.nodes later brought.are);
  order = (all_before qs.nodes rest child.items brought.moves taken.behind brought.are, brought.order);
}
  where
    later : (q : List ℕ) → Has rest q → Has away q
    later q has = subst (λ xs. Has xs q) (sym taken.first) (inr has)

    first : (q : List ℕ) → q ≡ child.items → Has away q
    first q e = subst (λ xs. Has xs q) (sym taken.first) (inl e)

    in_rest : (q : List ℕ) → Has rest q → place_of rs q ≡ home ps.nodes q
    in_rest q has = brought.here q has ∙ ap (λ n. home n q) gone.nodes

    by : (q : List ℕ) → Has (child.items ∷ rest) q → place_of rs q ≡ home ps.nodes q
    by q (inr has) = in_rest q has
    by q (inl e) = go (has_cases rest q)
      where
        go : Has rest q ⊎ (Has rest q → ⊥) → place_of rs q ≡ home ps.nodes q
        go (inl has) = in_rest q has
        go (inr not) = brought.others q not ∙ (ap (place_of qs) e ∙ gone.here ∙ ap (home ps.nodes) (sym e))

-- ---- a call has met its children

coming : (ps : Places) (nodes : ℕ) (p : List ℕ) (all : List Await) (away : Paths) (es : List Entry) → AreAway ps p all away → nodes ≡ ps.nodes → All (IsMoveHome nodes away) es → All (ComesHome ps p all) es
coming ps nodes p all away [] are same each = All-nil (ComesHome ps p all)
coming ps nodes p all away (Ran q n ∷ es) are same each = absurd (All-head (IsMoveHome nodes away) (Ran q n) es each)
coming ps nodes p all away (Moved q node ∷ es) are same each =
    let here = All-head (IsMoveHome nodes away) (Moved q node) es each in
    All-cons (ComesHome ps p all) (Moved q node) es (are.only q.items here.0, here.1 ∙ ap (λ n. home n q.items) same) (coming ps nodes p all away es are same (All-tail (IsMoveHome nodes away) (Moved q node) es each))
coming ps nodes p all away (Met q ∷ es) are same each = absurd (All-head (IsMoveHome nodes away) (Met q) es each)

-- the caller's move, where it has one
abbrev pub moved : Bool → ArrayVec ℕ → ℕ → List Entry
moved true path node = Moved path node ∷ []
moved false path node = []

pub moved_then : (went : Bool) (path p : ArrayVec ℕ) (node : ℕ) (es fs : List Entry) → went ≡ true → p ≡ path → fs ≡ es ++ Moved p node ∷ [] → fs ≡ es ++ moved went path node
moved_then true path p node es fs is same items = items ∙ ap (λ x. es ++ Moved x node ∷ []) same
moved_then false path p node es fs is same items = absurd (true≢false (sym is))

pub moved_else : (went : Bool) (path : ArrayVec ℕ) (node : ℕ) (es fs : List Entry) → went ≡ false → fs ≡ es → fs ≡ es ++ moved went path node
moved_else true path node es fs is items = absurd (true≢false is)
moved_else false path node es fs is items = items ∙ append-nil-of es
  where
    append-nil-of : (es : List Entry) → es ≡ es ++ []
    append-nil-of [] = refl
    append-nil-of (e ∷ es) = ap (λ x. e ∷ x) (append-nil-of es)

gone_nodes : (went : Bool) (p : List ℕ) (node : ℕ) (ps qs : Places) → HasGoneIf went p node ps qs → qs.nodes ≡ ps.nodes
gone_nodes true p node ps qs gone = let g = gone.1 in g.nodes
gone_nodes false p node ps qs gone = ap (λ (x : Places). x.nodes) gone.1

gone_here : (went : Bool) (p : List ℕ) (node : ℕ) (ps qs : Places) → HasGoneIf went p node ps qs → place_of qs p ≡ node
gone_here true p node ps qs gone = let g = gone.1 in g.here
gone_here false p node ps qs gone = ap (λ x. place_of x p) gone.1 ∙ gone.0

gone_others : (went : Bool) (p : List ℕ) (node : ℕ) (ps qs : Places) → HasGoneIf went p node ps qs → (q : List ℕ) → q ≢ p → place_of qs q ≡ place_of ps q
gone_others true p node ps qs gone q ne = let g = gone.1 in g.others q ne
gone_others false p node ps qs gone q ne = ap (λ x. place_of x q) gone.1

callers_move : (went : Bool) (ps qs : Places) (path : ArrayVec ℕ) (all : List Await) (node : ℕ) → MeetsOn ps path.items all node → HasGoneIf went path.items node ps qs → IsCallersMove ps path all (moved went path node)
callers_move true ps qs path [] node on gone = absurd (gone.0 (sym on))
callers_move false ps qs path [] node on gone = refl
callers_move true ps qs path (a ∷ others) node on gone = inr (λ e. gone.0 (e ∙ sym on), ap (λ n. Moved path n ∷ []) on)
callers_move false ps qs path (a ∷ others) node on gone = inl (gone.0 ∙ on, refl)

callers_led : (went : Bool) (s : Space) (ps qs : Places) (path : ArrayVec ℕ) (node : ℕ) → node < ps.nodes → HasGoneIf went path.items node ps qs → Leads s ps (moved went path node) s qs
callers_led true s ps qs path node below gone = (s, qs, record { now = refl; there = below; gone = gone.1 }, (refl, refl))
callers_led false s ps qs path node below gone = (refl, sym gone.1)

pub short_cases : (n : ℕ) → (n ≤ 8) ⊎ (8 < n)
short_cases n = go (nat_lt 8 n) refl
  where
    go : (b : Bool) → nat_lt 8 n ≡ b → (n ≤ 8) ⊎ (8 < n)
    go true is = let more : 8 < n = grind (arith, nat_tests) in inr more
    go false is = let less : n ≤ 8 = grind (arith, nat_tests) in inl less

pub copied_nodes : (b : Bool) (p : List ℕ) (o : Option (List ℕ)) (ps qs : Places) → AreCopied b p o ps qs → qs.nodes ≡ ps.nodes
copied_nodes true p o ps qs same = ap (λ (x : Places). x.nodes) same
copied_nodes false p None ps qs same = ap (λ (x : Places). x.nodes) same
copied_nodes false p (Some r) ps qs copied = go (short_cases (length (p ++ r)))
  where
    go : (length (p ++ r) ≤ 8) ⊎ (8 < length (p ++ r)) → qs.nodes ≡ ps.nodes
    go (inl short) = let left = copied.here short in left.nodes
    go (inr deep) = ap (λ (x : Places). x.nodes) (copied.deeper deep)

copied_beside : (b : Bool) (p : List ℕ) (o : Option (List ℕ)) (ps qs : Places) → AreCopied b p o ps qs → (q : List ℕ) → IsBeside p o q → place_of qs q ≡ place_of ps q
copied_beside true p o ps qs same q beside = ap (λ x. place_of x q) same
copied_beside false p None ps qs same q beside = ap (λ x. place_of x q) same
copied_beside false p (Some r) ps qs copied q beside = go (short_cases (length (p ++ r)))
  where
    go : (length (p ++ r) ≤ 8) ⊎ (8 < length (p ++ r)) → place_of qs q ≡ place_of ps q
    go (inl short) = let left = copied.here short in left.others q beside
    go (inr deep) = ap (λ x. place_of x q) (copied.deeper deep)

copied_home : (b : Bool) (p : List ℕ) (o : Option (List ℕ)) (ps qs : Places) (nodes : ℕ) → AreCopied b p o ps qs → ps.nodes ≡ nodes → (q : List ℕ) → place_of ps q ≡ home nodes q → place_of qs q ≡ home nodes q
copied_home true p o ps qs nodes same is q at_home = ap (λ x. place_of x q) same ∙ at_home
copied_home false p None ps qs nodes same is q at_home = ap (λ x. place_of x q) same ∙ at_home
copied_home false p (Some r) ps qs nodes copied is q at_home = go (short_cases (length (p ++ r))) (above_cases (p ++ r) q)
  where
    go : (length (p ++ r) ≤ 8) ⊎ (8 < length (p ++ r)) → IsAbove (p ++ r) q ⊎ (IsAbove (p ++ r) q → ⊥) → place_of qs q ≡ home nodes q
    go (inl short) (inl above) = let left = copied.here short in left.here q above ∙ ap (λ n. home n q) (left.nodes ∙ is)
    go (inl short) (inr beside) = let left = copied.here short in left.others q beside ∙ at_home
    go (inr deep) c = ap (λ x. place_of x q) (copied.deeper deep) ∙ at_home

-- once those that were away have come home, each awaited child is there
home_then : (ps ps1 ps2 : Places) (p : List ℕ) (away : Paths) (es es' : List Entry) (a : Await) → ps1.nodes ≡ ps.nodes → ((q : List ℕ) → q ≢ p → place_of ps1 q ≡ place_of ps q) → BroughtHome away ps1 ps2 es es'
    → IsHomeOrAway ps p away a → IsAtHome ps2 p a
home_then ps ps1 ps2 p away es es' a same others brought is short = go is (has_cases away child)
  where
    child : List ℕ
    child = p ++ a.number ∷ []

    nodes : ps2.nodes ≡ ps.nodes
    nodes = brought.nodes ∙ same

    other : child ≢ p
    other e = let long = length_one_more p a.number in let b = ap length e in omega (arith, long, b)

    there : Has away child → place_of ps2 child ≡ home ps2.nodes child
    there has = brought.here child has ∙ ap (λ n. home n child) (sym brought.nodes)

    go : IsAtHome ps p a ⊎ Has away child → Has away child ⊎ (Has away child → ⊥) → place_of ps2 child ≡ home ps2.nodes child
    go c (inl has) = there has
    go (inl at_home) (inr not) = brought.others child not ∙ (others child other ∙ (at_home short ∙ ap (λ n. home n child) (sym nodes)))
    go (inr has) (inr not) = absurd (not has)

all_home_then : (ps ps1 ps2 : Places) (p : List ℕ) (away : Paths) (es es' : List Entry) (all : List Await) → ps1.nodes ≡ ps.nodes → ((q : List ℕ) → q ≢ p → place_of ps1 q ≡ place_of ps q) → BroughtHome away ps1 ps2 es es'
    → All (IsHomeOrAway ps p away) all → All (IsAtHome ps2 p) all
all_home_then ps ps1 ps2 p away es es' [] same others brought each = All-nil (IsAtHome ps2 p)
all_home_then ps ps1 ps2 p away es es' (a ∷ all) same others brought each =
    All-cons (IsAtHome ps2 p) a all (home_then ps ps1 ps2 p away es es' a same others brought (All-head (IsHomeOrAway ps p away) a all each)) (all_home_then ps ps1 ps2 p away es es' all same others brought (All-tail (IsHomeOrAway ps p away) a all each))

named_home : (ps : Places) (p : List ℕ) (all : List Await) (n : ℕ) → is_awaited n all ≡ true → All (IsAtHome ps p) all → length p < 8 → place_of ps (p ++ n ∷ []) ≡ home ps.nodes (p ++ n ∷ [])
named_home ps p [] n named each short = absurd (true≢false (sym named))
named_home ps p (a ∷ all) n named each short = go (cases_eq n a.number) (λ later. named_home ps p all n later (All-tail (IsAtHome ps p) a all each) short)
  where
    go : (n ≡ a.number) ⊎ (n ≡ a.number → ⊥) → (is_awaited n all ≡ true → place_of ps (p ++ n ∷ []) ≡ home ps.nodes (p ++ n ∷ [])) → place_of ps (p ++ n ∷ []) ≡ home ps.nodes (p ++ n ∷ [])
    go (inl e) rec = subst (λ i. place_of ps (p ++ i ∷ []) ≡ home ps.nodes (p ++ i ∷ [])) (sym e) (All-head (IsAtHome ps p) a all each short)
    go (inr ne) rec =
        let other : (n == a.number) ≡ false = grind (arith, nat_tests) in
        rec (sym (ap (λ b. b || is_awaited n all) other) ∙ named)

home_of_first : (ps ps2 : Places) (p : List ℕ) (all : List Await) (node here : ℕ) → MeetsOn ps p all node → ps2.nodes ≡ ps.nodes → here ≡ node → IsHomeOfFirst ps2.nodes all here
home_of_first ps ps2 p [] node here on same is = tt
home_of_first ps ps2 p (a ∷ others) node here on same is = is ∙ (on ∙ ap (node_of a.number) (sym same))

assoc4 : (es ms ns ls : List Entry) → ((es ++ ms) ++ ns) ++ ls ≡ es ++ ((ms ++ ns) ++ ls)
assoc4 [] ms ns ls = refl
assoc4 (e ∷ es) ms ns ls = ap (λ x. e ∷ x) (assoc4 es ms ns ls)

pub has_met_by : (path : ArrayVec ℕ) (k : Call) (node : ℕ) (s t : Space) (ps ps1 ps2 ps3 : Places) (es es1 es2 es3 : List Entry) (went : Bool) (away : Paths)
    → call_at path.items 8 s ≡ Some k → t ≡ step path.items 8 s → node < ps.nodes → MeetsOn ps path.items (awaits k) node → AreAway ps path.items (awaits k) away
    → HasGoneIf went path.items node ps ps1 → es1 ≡ es ++ moved went path node → BroughtHome away ps1 ps2 es1 es2 → AreCopied (has_stopped path.items t) path.items (replaced k) ps2 ps3 → es3 ≡ es2 ++ Met path ∷ []
    → HasMetBy path k node s ps es t ps3 es3
has_met_by path k node s t ps ps1 ps2 ps3 es es1 es2 es3 went away may now below on are gone items1 brought copied items3 = record {
  now = now;
  moves = moved went path node ++ brought.moves;
  are = record { callers = moved went path node; childrens = brought.moves; are = refl; caller = callers_move went ps ps1 path (awaits k) node on gone; home = coming ps ps1.nodes p (awaits k) away brought.moves are nodes1 brought.are; order = brought.order };
  items = items3 ∙ (ap (λ xs. xs ++ Met path ∷ []) (brought.items ∙ ap (λ xs. xs ++ brought.moves) items1) ∙ assoc4 es (moved went path node) brought.moves (Met path ∷ []));
  led = leads-append (moved went path node ++ brought.moves) (Met path ∷ []) s s t ps ps2 ps3 (leads-append (moved went path node) brought.moves s s s ps ps1 ps2 (callers_led went s ps ps1 path node below gone) (brought.led s)) (leads-one (Met path) s t ps2 ps3 met);
  caller = copied_beside stopped p (replaced k) ps2 ps3 copied p (way_beside p p k (way_itself p)) ∙ caller2;
  children = λ q short awaited.
      let child = awaited_path (awaits k) q p awaited in
      let long = long_below (awaits k) q p awaited in
      let there = named_home ps2 p (awaits k) child.0 child.2 homes (omega (arith, short, long)) in
      copied_home stopped p (replaced k) ps2 ps3 ps.nodes copied nodes2 q (subst (λ r. place_of ps2 r ≡ home ps.nodes r) (sym child.1) (there ∙ ap (λ n. home n (p ++ child.0 ∷ [])) nodes2));
  others = λ q ne not beside. copied_beside stopped p (replaced k) ps2 ps3 copied q beside ∙ (brought.others q (λ has. not (away_below q has)) ∙ gone_others went p node ps ps1 gone q ne);
}
  where
    p : List ℕ
    p = path.items

    stopped : Bool
    stopped = has_stopped p t

    nodes1 : ps1.nodes ≡ ps.nodes
    nodes1 = gone_nodes went p node ps ps1 gone

    nodes2 : ps2.nodes ≡ ps.nodes
    nodes2 = brought.nodes ∙ nodes1

    away_below : (q : List ℕ) → Has away q → IsAwaitedBelow (awaits k) q p
    away_below q has = let child = are.only q has in subst (λ r. IsAwaitedBelow (awaits k) r p) (sym child.is) (child_below (awaits k) p child.number child.awaited)

    caller2 : place_of ps2 p ≡ node
    caller2 = brought.others p (λ has. not_itself (awaits k) p p (away_below p has) refl) ∙ gone_here went p node ps ps1 gone

    homes : All (IsAtHome ps2 p) (awaits k)
    homes = all_home_then ps ps1 ps2 p away es1 es2 (awaits k) nodes1 (gone_others went p node ps ps1 gone) brought are.each

    met : MeetsAt p s t ps2 ps3
    met = record { call = k; may = may; now = now; gathered = record { caller = home_of_first ps ps2 p (awaits k) node (place_of ps2 p) on nodes2 caller2; children = homes }; copied = copied }
