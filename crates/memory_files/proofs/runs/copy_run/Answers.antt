use Rattle.std.proofs.Common.{◌≡◌, ◌∙◌, ℕ, length, refl, []}
use Rattle.std.specs.Prelude.{replicate}
use Rattle.space_mem.proofs.Strings.{page_string}
use Rattle.memory_files.proofs.PageRuns.{zeros_row}
use Rattle.memory_files.proofs.runs.copy_run.Goals as goal

pub returns-in-Some : goal.returns-in-Some
returns-in-Some c = page_string c.args.memory.now.memory c.args.at (length c.args.out.now) _ _ [] _ c.in-Some.ensures.some c.requires c.bytes.ensures.bytes c.copy_from_slice.ensures.after

pub returns-in-None : goal.returns-in-None
returns-in-None c =
    let zeros : c.fill.new.self ≡ replicate {A = ℕ} (length c.args.out.now) 0 = c.fill.ensures.after (λ y e. e) in
    zeros ∙ zeros_row c.args.memory.now.memory c.args.at (length c.args.out.now) (c.in-None.ensures.none refl) c.requires
