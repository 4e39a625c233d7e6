-- Runs of loads, from the highest load down, as a loop finds them.
use Rattle.std.proofs.Common.{◌≡◌, ℕ, zero, suc, ◌-◌, ◌+◌, ◌^◌, ◌≤◌, ◌<◌, List, [], ◌∷◌, get_or, drop, length, sym, ap, subst, ◌∙◌, arith}
use Rattle.std.proofs.lemmas.List.{drop_more, drop_all, get_or-map, length-map}
use Rattle.elf_model.specs.Loads as model
use Rattle.elf_model.specs.Loads.{IsLoad, AreLoads, end_of}
use Rattle.elf_model.specs.Pages.{Run}
use Rattle.elf_model.specs.Reading.{runs_of}
use Rattle.elf_model.specs.Adding.{add}
use Rattle.elf_model.proofs.Parts.{runs_add, no_runs}
use Rattle.elf_image.specs.declared.load.Load.{Load}
use Rattle.elf_image.specs.View.{load_view, load_views}

above_nothing : (from end : ℕ) (ls : List model.Load) → AreLoads from end ls → AreLoads 0 end ls
above_nothing from end [] h = tt
above_nothing from end (l ∷ ls) h = let g = h.0 in (record { order = omega arith; filled = g.filled; sized = g.sized; range = g.range; permission = g.permission }, h.1)

pub loads_drop : (from end k : ℕ) (ls : List model.Load) → AreLoads from end ls → AreLoads 0 end (drop k ls)
loads_drop from end zero ls h = above_nothing from end ls h
loads_drop from end (suc k) [] h = tt
loads_drop from end (suc k) (l ∷ ls) h = loads_drop (end_of l) end k ls h.1

pub each_load : (from end : ℕ) (ls : List Load) (k : ℕ) (d : Load) → AreLoads from end (load_views ls) → k < length ls → IsLoad 0 end (load_view (get_or ls k d))
each_load from end [] k d h lt = absurd (omega arith)
each_load from end (l ∷ ls) zero d h lt = let g = h.0 in record { order = omega arith; filled = g.filled; sized = g.sized; range = g.range; permission = g.permission }
each_load from end (l ∷ ls) (suc k) d h lt = each_load (end_of (load_view l)) end ls k d h.1 (omega arith)

pub none_yet : (ls : List Load) → [] ≡ runs_of (drop (length ls - 0) (load_views ls))
none_yet ls =
    let none : drop (length ls - 0) (load_views ls) ≡ [] = drop_all (length ls - 0) (load_views ls) (omega (arith, length-map ls load_view)) in
    rw none (sym no_runs)

pub adds : (ls : List Load) (done : ℕ) (d : Load) (rs new : List Run) → AreLoads 0 (2 ^ 32) (load_views ls) → done < length ls → rs ≡ runs_of (drop (length ls - done) (load_views ls)) → new ≡ add (load_view (get_or ls (length ls - 1 - done) d)) rs
    → new ≡ runs_of (drop (length ls - (done + 1)) (load_views ls))
adds ls done d rs new h lt so_far added =
    let views = load_views ls in
    let k = length ls - 1 - done in
    let l = load_view (get_or ls k d) in
    let short : k < length views = omega (arith, length-map ls load_view) in
    let same : get_or views k l ≡ l = get_or-map load_view ls k d l (omega arith) in
    let next : drop k views ≡ l ∷ drop (k + 1) views = drop_more views k l short ∙ ap (λ (m : model.Load). m ∷ drop (k + 1) views) same in
    let place : k + 1 ≡ length ls - done = omega arith in
    let there : k ≡ length ls - (done + 1) = omega arith in
    let parts : AreLoads 0 (2 ^ 32) (l ∷ drop (k + 1) views) = subst (AreLoads 0 (2 ^ 32)) next (loads_drop 0 (2 ^ 32) k views h) in
    let found = runs_add 0 l (drop (k + 1) views) parts in
    let so_far_at : rs ≡ runs_of (drop (k + 1) views) = so_far ∙ ap (λ (j : ℕ). runs_of (drop j views)) (sym place) in
    added ∙ ap (add l) so_far_at ∙ sym found ∙ ap runs_of (sym next) ∙ ap (λ (j : ℕ). runs_of (drop j views)) there

pub all_added : (ls : List Load) (rs : List Run) (done : ℕ) → length ls ≤ done → rs ≡ runs_of (drop (length ls - done) (load_views ls)) → rs ≡ runs_of (load_views ls)
all_added ls rs done le so_far =
    let none : length ls - done ≡ 0 = omega arith in
    so_far ∙ ap (λ (j : ℕ). runs_of (drop j (load_views ls))) none
