-- Children that a call waits for are ready, one after another.
use Rattle.std.proofs.Common.{◌≡◌, ℕ, ◌+◌, ◌≤◌, ◌<◌, Bool, true, false, List, [], Some, None, length, get_or, drop, refl, drop-cons, add-one}
use Rattle.std.specs.Prelude.{Option, option_map, slice_get}
use Rattle.std.proofs.lemmas.List.{drop_all}
use Rattle.std.proofs.lemmas.Option.{slice_get_within, get_or_from_slice_get}
use Rattle.space_model.specs.declared.Await.{Await}
use Rattle.space_model.specs.declared.Reach.{Reach}
use Rattle.space_model.specs.declared.Reach.TheVariants.{Itself, Whole}
use Rattle.space_model.specs.Space.{Space, Children, find, is_settled}
use Rattle.run_model.specs.Schedule.{is_ready, are_ready}

-- where one is ready, it is for the others to say
pub one_ready : (all : List Await) (i : ℕ) (a : Await) (cs : Children) → slice_get all i ≡ Some a → is_ready a.reach (find a.number cs) ≡ true → are_ready (drop (i + 1) all) cs ≡ are_ready (drop i all) cs
one_ready all i a cs at ready =
    let within : i < length all = slice_get_within all i a at in
    let item : get_or all i a ≡ a = get_or_from_slice_get all i a a at in
    rw (add-one, drop-cons all i a within, item, ready) refl

-- where one is not, all are not
pub one_waits : (all : List Await) (i : ℕ) (a : Await) (cs : Children) → slice_get all i ≡ Some a → is_ready a.reach (find a.number cs) ≡ false → are_ready (drop i all) cs ≡ false
one_waits all i a cs at waits =
    let within : i < length all = slice_get_within all i a at in
    let item : get_or all i a ≡ a = get_or_from_slice_get all i a a at in
    rw (drop-cons all i a within, item, waits) refl

-- and at the end all are
pub all_ready : (all : List Await) (i : ℕ) (cs : Children) → length all ≤ i → are_ready (drop i all) cs ≡ true
all_ready all i cs h = let empty : drop i all ≡ [] = drop_all i all h in rw empty refl

-- a child that is awaited whole is ready where it has settled
pub whole_there : (r : Reach) (o : Option Space) (settled : Bool) → r ≡ Whole → Some settled ≡ option_map is_settled o → settled ≡ is_ready r o
whole_there Itself o settled e h = cc
whole_there Whole None settled e h = cc
whole_there Whole (Some s) settled e h = cc

-- and where it is missing
pub whole_missing : (r : Reach) (o : Option Space) → r ≡ Whole → None ≡ option_map is_settled o → true ≡ is_ready r o
whole_missing Itself o e h = cc
whole_missing Whole None e h = refl
whole_missing Whole (Some s) e h = cc
