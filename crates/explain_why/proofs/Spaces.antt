-- What is told of the spaces of a settled tree.
use Rattle.std.proofs.Common.{◌≡◌, ℕ, true, List, [], ◌++◌, Some, None, refl, sym, ap, ◌∙◌, subst}
use Rattle.std.specs.Prelude.{option_map}
use Rattle.memory_model.specs.Memory.{Memory}
use Rattle.file_model.specs.Sizes.{slot_count}
use Rattle.space_model.specs.declared.Status.{Status}
use Rattle.space_model.specs.declared.Status.TheVariants.{Running, Stopped}
use Rattle.space_model.specs.Stop.{is_stopped}
use Rattle.space_model.specs.Space.{Space, Top, top_of}
use Rattle.space_model.specs.Path.{at}
use Rattle.run_model.specs.Demand.{settle_tree}
use Rattle.explain_why.specs.declared.telling.Ending.{Ending}
use Rattle.explain_why.specs.declared.telling.Ending.TheVariants.{Trapped}
use Rattle.explain_why.specs.Parts.{HasParts, numbers_below, paths_from}
use Rattle.explain_why.specs.Why.{ExplainsSlot, ExplainsSpace, ExplainsStop, ExplainsTop, IsWhy, ending_of, said}

-- what is told of a status
pub stop_as : (root end : Space) (p : List ℕ) (t : Top) (status : Status) (e : Ending) (text : List ℕ) → status ≡ t.status → e ≡ ending_of status → ExplainsStop root end p t e text → ExplainsStop root end p t (ending_of t.status) text
stop_as root end p t status e text same is told = subst (λ x. ExplainsStop root end p t x text) (is ∙ ap ending_of same) told

-- a trap has stopped its space
pub trap_stopped : (status : Status) → Trapped ≡ ending_of status → is_stopped status ≡ true
unfolding ending_of
trap_stopped Running is = cc
trap_stopped (Stopped cause value) is = refl

-- why it has stopped, and its files
pub top_told : (root r end : Space) (p : List ℕ) (t : Top) (m : Memory) (stop files text : List ℕ) → r ≡ root → m ≡ t.memory → ExplainsStop root end p t (ending_of t.status) stop → HasParts (ExplainsSlot r p m) (numbers_below slot_count) files → text ≡ stop ++ files
    → ExplainsTop root end p (Some t) text
top_told root r end p t m stop files text is same why told grown =
    (stop, files, why, subst (λ n. HasParts (ExplainsSlot root p n) (numbers_below slot_count) files) same (subst (λ x. HasParts (ExplainsSlot x p m) (numbers_below slot_count) files) is told), grown)

-- of one that stands there, what is told of its top
pub there : (root end s : Space) (p : List ℕ) (t : Top) (text : List ℕ) → at p end ≡ Some s → t ≡ top_of s → ExplainsTop root end p (Some t) text → ExplainsSpace root end p text
unfolding ExplainsSpace
there root end s p t text is top told = subst (λ o. ExplainsTop root end p (option_map top_of o) text) (sym is) (subst (λ u. ExplainsTop root end p (Some u) text) top told)

pub nowhere : (root end : Space) (p text : List ℕ) → at p end ≡ None → text ≡ [] → ExplainsSpace root end p text
unfolding ExplainsSpace
nowhere root end p text none empty = subst (λ o. ExplainsTop root end p (option_map top_of o) text) (sym none) empty

-- of all of them
pub all_told : (root tree end : Space) (paths : List (List ℕ)) (told text : List ℕ) → tree ≡ root → end ≡ settle_tree tree → paths ≡ paths_from [] end → HasParts (ExplainsSpace root end) paths told → text ≡ said told → IsWhy root text
all_told root tree end paths told text same is each parts line =
    let end_is : end ≡ settle_tree root = is ∙ ap settle_tree same in
    (told, subst (λ e. HasParts (ExplainsSpace root e) (paths_from [] e) told) end_is (subst (λ ps. HasParts (ExplainsSpace root end) ps told) each parts), line)
