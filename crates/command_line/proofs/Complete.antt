-- Where no fault is found at the words of a command with no subcommand, each argument that is required, or has a default, has a value
-- that it takes.
use Rattle.std.proofs.Common.{◌≡◌, ◌⊎◌, ◌<◌, ◌||◌, ◌&&◌, ◌++◌, Bool, true, false, cond, not, List, [], ◌∷◌, length, Option, Some, None, refl, sym, ap, subst, inl, inr, arith}
use Rattle.std.specs.Prelude.{find, fold, slice_get, IfSome, IsSome, option_and_then, option_map}
use Rattle.std.specs.List.{AllByRecursion, list_any}
use Rattle.std.specs.Option.{option_map_or}
use Rattle.std.specs.Str.{bytes_eq}
use Rattle.std.proofs.lemmas.Bool.{ne_eqb}
use Rattle.std.proofs.lemmas.Slice.Eq.{bytes_eq-Decides}
use Rattle.clap.specs.Facts.{explicit_source}
use Rattle.clap.specs.Kinds.{check_kinds, request_kinds}
use Rattle.clap.specs.Values.{read_as}
use Rattle.clap.specs.Walk.{Row, Rule, Text, action_of, default_rows, finished, first_of, has_row, is_empty, more_values, nothing_held, one_of, reading_by, rows_after, row_text, settled, walk, walk_from, with_default, with_values}
use Rattle.clap.specs.Simple.{Shape}
use Rattle.clap.specs.Takes.{is_given}
use Rattle.clap.specs.Faults.{check_fault, default_fault, defaults_fault, given_default_fault, level_fault, settle_fault, values_fault, walk_fault}
use Rattle.clap.specs.declared.builder.value_parser.Reading.{Reading}
use Rattle.clap.specs.declared.builder.value_parser.Reading.TheVariants.{AsWritten}
use Rattle.clap.specs.declared.parser.matches.ValueSource.{ValueSource}
use Rattle.clap.specs.declared.parser.matches.ValueSource.TheVariants.{DefaultValue}
use Rattle.command_line.proofs.Kept.{AreOurs, Fits, Good, GoodRows, IsOurs, IsSet, Takes, found_is, given_good, or_else_none, settle_good, walk_good}

-- ---- the row of an id

abbrev row_at : Text → List Row → Option Row
row_at id rows = find (λ r. bytes_eq r.id id) rows

found_holds : {A : Type 0} (p : A → Bool) (xs : List A) (x : A) → find p xs ≡ Some x → p x ≡ true
found_holds p [] x e = absurd cc
found_holds p (y ∷ ys) x e = go (p y) refl (found_holds p ys x) e
  where
    go : (b : Bool) → p y ≡ b → (find p ys ≡ Some x → p x ≡ true) → cond b (Some y) (find p ys) ≡ Some x → p x ≡ true
    go true is later s = let same : y ≡ x = cc in subst (λ z. p z ≡ true) same is
    go false is later s = later s

any_found : {A : Type 0} (p : A → Bool) (xs : List A) → list_any p xs ≡ true → IsSome (find p xs)
any_found p [] e = absurd cc
any_found p (y ∷ ys) e = go (p y) (any_found p ys) e
  where
    go : (b : Bool) → (list_any p ys ≡ true → IsSome (find p ys)) → (b || list_any p ys) ≡ true → IsSome (cond b (Some y) (find p ys))
    go true later s = refl
    go false later s = later s

given_found : (id : Text) (rows : List Row) → is_given id rows ≡ true → IsSome (row_at id rows)
given_found id rows e = go (row_at id rows) e
  where
    go : (o : Option Row) → option_map_or (λ r. explicit_source r.source) o false ≡ true → IsSome o
    go None f = absurd cc
    go (Some r) f = refl

-- ---- a value

-- what the getters read of the argument is a text that it takes
pub record Value (a : Rule) (rows : List Row) (t : Text) : Type 0 where
  pub first : first_of a.id rows ≡ Some t
  pub one : one_of a.id rows ≡ Some t
  pub taken : Takes a t

abbrev pub HasValue : List Row → Rule → Type 0
HasValue rows a = (t : Text) × Value a rows t

value_of_row : (c : List Rule) (a : Rule) (rows : List Row) (r : Row) → IsSet c a → Good c r → row_at a.id rows ≡ Some r → HasValue rows a
value_of_row c a rows r one good is = go r.values good.some good.fit refl
  where
    same : r.id ≡ a.id
    same = (bytes_eq-Decides r.id a.id).0 (found_holds (λ (x : Row). bytes_eq x.id a.id) rows r is)

    go : (vs : List Text) → 0 < length vs → AllByRecursion (Fits c r.id) vs → r.values ≡ vs → HasValue rows a
    go [] some fit values = absurd (omega (arith, some))
    go (v ∷ vs) some fit values =
        let text : slice_get r.values 0 ≡ Some v = ap (λ xs. slice_get xs 0) values in
        let here : Fits c a.id v = subst (λ (i : Text). Fits c i v) same fit.0 in
        let read : row_text r ≡ Some v = subst (λ h. option_map (read_as h) (slice_get r.values 0) ≡ Some v) (sym good.plainly) (ap (option_map (read_as AsWritten)) text) in (
          v,
          record {
            first = subst (λ o. option_and_then (λ (x : Row). slice_get x.values 0) o ≡ Some v) (sym is) text;
            one = subst (λ o. option_and_then row_text o ≡ Some v) (sym is) read;
            taken = subst (λ o. IfSome o (λ b. Takes b v)) one.found here;
          },
        )

value_there : (c : List Rule) (a : Rule) (rows : List Row) → IsSet c a → GoodRows c rows → IsSome (row_at a.id rows) → HasValue rows a
value_there c a rows one good there = go (row_at a.id rows) refl there
  where
    go : (o : Option Row) → row_at a.id rows ≡ o → IsSome o → HasValue rows a
    go None is some = absurd cc
    go (Some r) is some = value_of_row c a rows r one (found_is (Good c) _ rows r good is) is

-- ---- defaults

default_good : (c : List Rule) (rows : List Row) (a : Rule) → IsOurs c a → default_fault rows a ≡ [] → GoodRows c rows → GoodRows c (with_default rows a)
default_good c rows a (inl asks) e good = subst (λ (ds : List Text). GoodRows c (cond (has_row a.id rows) rows (default_rows a.id (reading_by a) ds rows))) (sym asks.plain) (go (has_row a.id rows))
  where
    go : (b : Bool) → GoodRows c (cond b rows rows)
    go true = good
    go false = good
default_good c rows a (inr one) e good = go (has_row a.id rows) a.defaults e
  where
    go : (b : Bool) (ds : List Text) → cond (b || is_empty ds) [] (given_default_fault a ds) ≡ [] → GoodRows c (cond b rows (default_rows a.id (reading_by a) ds rows))
    go true ds f = good
    go false [] f = good
    go false (d ∷ ds) f =
        let full : is_empty (d ∷ ds) ≡ false = ne_eqb _ _ (λ z. omega arith) in
        let b = or_else_none (request_kinds (action_of a)) (values_fault a (d ∷ ds)) (subst (λ x. cond x [] (given_default_fault a (d ∷ ds)) ≡ []) full f) in
        given_good c a DefaultValue d ds rows one b.1 good

defaults_good : (c rest : List Rule) (rows : List Row) → AllByRecursion (IsOurs c) rest → defaults_fault rows rest ≡ [] → GoodRows c rows → GoodRows c (fold with_default rows rest)
unfolding defaults_fault
defaults_good c [] rows ours e good = good
defaults_good c (a ∷ rest) rows ours e good =
    let b = or_else_none (default_fault rows a) (defaults_fault (with_default rows a) rest) e in
    defaults_good c rest (with_default rows a) ours.1 b.1 (default_good c rows a ours.0 b.0 good)

or_true : (a b : Bool) → b ≡ true → (a || b) ≡ true
or_true true b e = refl
or_true false b e = e

true_or : (a b : Bool) → a ≡ true → (a || b) ≡ true
true_or true b e = refl
true_or false b e = absurd cc

same_id : (id : Text) → bytes_eq id id ≡ true
same_id id = (bytes_eq-Decides id id).1 refl

added_there : (id : Text) (how : Reading) (s : ValueSource) (vs : List Text) (rows : List Row) → has_row id (with_values id how s vs rows) ≡ true
added_there id how s vs [] = true_or (bytes_eq id id) false (same_id id)
added_there id how s vs (r ∷ rs) = go (bytes_eq r.id id) refl (added_there id how s vs rs)
  where
    later : List Row
    later = with_values id how s vs rs

    go : (b : Bool) → bytes_eq r.id id ≡ b → has_row id later ≡ true → has_row id (cond b (more_values s vs r ++ rs) (r ∷ later)) ≡ true
    go true is rest = true_or (bytes_eq r.id id) (has_row id rs) is
    go false is rest = or_true (bytes_eq r.id id) (has_row id later) rest

added_keeps : (other id : Text) (how : Reading) (s : ValueSource) (vs : List Text) (rows : List Row) → has_row other rows ≡ true → has_row other (with_values id how s vs rows) ≡ true
added_keeps other id how s vs [] e = absurd cc
added_keeps other id how s vs (r ∷ rs) e = go (bytes_eq r.id id) (bytes_eq r.id other) refl e (added_keeps other id how s vs rs)
  where
    later : List Row
    later = with_values id how s vs rs

    go : (b x : Bool) → bytes_eq r.id other ≡ x → (x || has_row other rs) ≡ true → (has_row other rs ≡ true → has_row other later ≡ true) → has_row other (cond b (more_values s vs r ++ rs) (r ∷ later)) ≡ true
    go true true is f keeps = true_or (bytes_eq r.id other) (has_row other rs) is
    go true false is f keeps = or_true (bytes_eq r.id other) (has_row other rs) f
    go false true is f keeps = true_or (bytes_eq r.id other) (has_row other later) is
    go false false is f keeps = or_true (bytes_eq r.id other) (has_row other later) (keeps f)

default_keeps : (other : Text) (rows : List Row) (a : Rule) → has_row other rows ≡ true → has_row other (with_default rows a) ≡ true
default_keeps other rows a e = go (has_row a.id rows) a.defaults
  where
    go : (b : Bool) (ds : List Text) → has_row other (cond b rows (default_rows a.id (reading_by a) ds rows)) ≡ true
    go true ds = e
    go false [] = e
    go false (d ∷ ds) = added_keeps other a.id (reading_by a) DefaultValue (d ∷ ds) rows e

defaults_keep : (other : Text) (rest : List Rule) (rows : List Row) → has_row other rows ≡ true → has_row other (fold with_default rows rest) ≡ true
defaults_keep other [] rows e = e
defaults_keep other (a ∷ rest) rows e = defaults_keep other rest (with_default rows a) (default_keeps other rows a e)

default_there : (rows : List Row) (a : Rule) → 0 < length a.defaults → has_row a.id (with_default rows a) ≡ true
default_there rows a some = go (has_row a.id rows) refl a.defaults some
  where
    go : (b : Bool) → has_row a.id rows ≡ b → (ds : List Text) → 0 < length ds → has_row a.id (cond b rows (default_rows a.id (reading_by a) ds rows)) ≡ true
    go true is ds lt = is
    go false is [] lt = absurd (omega (arith, lt))
    go false is (d ∷ ds) lt = added_there a.id (reading_by a) DefaultValue (d ∷ ds) rows

defaults_there : (rest : List Rule) (rows : List Row) → AllByRecursion (λ a. 0 < length a.defaults → has_row a.id (fold with_default rows rest) ≡ true) rest
defaults_there [] rows = tt
defaults_there (a ∷ rest) rows = (λ some. defaults_keep a.id rest (with_default rows a) (default_there rows a some), defaults_there rest (with_default rows a))

-- ---- what is required

wants_none : (x y z : Bool) → check_kinds x y z ≡ [] → z ≡ false
wants_none true y z e = absurd cc
wants_none false true z e = absurd cc
wants_none false false true e = absurd cc
wants_none false false false e = refl

at_leaf : (n z : Bool) → (not (n && false) && z) ≡ false → z ≡ false
at_leaf true z e = e
at_leaf false z e = e

none_passes : {A : Type 0} (p : A → Bool) (xs : List A) → list_any p xs ≡ false → AllByRecursion (λ x. p x ≡ false) xs
none_passes p [] e = tt
none_passes p (x ∷ xs) e = go (p x) refl e (none_passes p xs)
  where
    go : (b : Bool) → p x ≡ b → (b || list_any p xs) ≡ false → (list_any p xs ≡ false → AllByRecursion (λ y. p y ≡ false) xs) → AllByRecursion (λ y. p y ≡ false) (x ∷ xs)
    go true is f rest = absurd cc
    go false is f rest = (is, rest f)

given_where_required : (r g : Bool) → (r && not g) ≡ false → r ≡ true → g ≡ true
given_where_required true true e is = refl
given_where_required true false e is = absurd cc
given_where_required false g e is = absurd cc

none_lacks : (s : Shape) (rows : List Row) → check_fault s rows false ≡ [] → AllByRecursion (λ a. (a.required && not (is_given a.id rows)) ≡ false) s.rules
none_lacks s rows e =
    let z = list_any (λ (a : Rule). a.required && not (is_given a.id rows)) s.rules in
    none_passes (λ (a : Rule). a.required && not (is_given a.id rows)) s.rules (at_leaf s.subcommand_negates_reqs z (wants_none _ _ (not (s.subcommand_negates_reqs && false) && z) e))

-- ---- the end of a command's words

abbrev pub IsComplete : List Row → Rule → Type 0
IsComplete rows a = (a.required ≡ true) ⊎ (0 < length a.defaults) → HasValue rows a

one_complete : (c : List Rule) (rows : List Row) (a : Rule) → IsOurs c a → GoodRows c rows → (a.required && not (is_given a.id rows)) ≡ false → (0 < length a.defaults → has_row a.id rows ≡ true) → IsComplete rows a
one_complete c rows a (inl asks) good given filled (inl required) =
    let optional = asks.optional in
    absurd cc
one_complete c rows a (inl asks) good given filled (inr some) = absurd (omega (arith, some, ap length asks.plain))
one_complete c rows a (inr one) good given filled (inl required) = value_there c a rows one good (given_found a.id rows (given_where_required a.required (is_given a.id rows) given required))
one_complete c rows a (inr one) good given filled (inr some) = value_there c a rows one good (any_found (λ r. bytes_eq r.id a.id) rows (filled some))

all_complete : (c rest : List Rule) (rows : List Row) → AllByRecursion (IsOurs c) rest → GoodRows c rows → AllByRecursion (λ a. (a.required && not (is_given a.id rows)) ≡ false) rest
    → AllByRecursion (λ a. 0 < length a.defaults → has_row a.id rows ≡ true) rest → AllByRecursion (IsComplete rows) rest
all_complete c [] rows ours good given filled = tt
all_complete c (a ∷ rest) rows ours good given filled = (one_complete c rows a ours.0 good given.0 filled.0, all_complete c rest rows ours.1 good given.1 filled.1)

-- a command with no subcommand, at the end of its words
pub level_complete : (s : Shape) (words : List Text) → AreOurs s.rules → level_fault s [] nothing_held words false [] ≡ [] → AllByRecursion (IsComplete (rows_after s.rules [] words)) s.rules
level_complete s words ours e =
    let end = (walk s.rules [] nothing_held words).held in
    let rows = finished s.rules end in
    let a = or_else_none (walk_fault s [] (walk_from nothing_held) words) _ e in
    let b = or_else_none (settle_fault s.rules s.args_override_self end) _ a.1 in
    let c = or_else_none (defaults_fault (settled s.rules end).rows s.rules) _ b.1 in
    let walked = settle_good s.rules s.args_override_self end ours b.0 (walk_good s [] (walk_from nothing_held) words ours a.0 tt) in
    all_complete s.rules s.rules rows ours (defaults_good s.rules s.rules (settled s.rules end).rows ours c.0 walked) (none_lacks s rows c.1) (defaults_there s.rules (settled s.rules end).rows)
