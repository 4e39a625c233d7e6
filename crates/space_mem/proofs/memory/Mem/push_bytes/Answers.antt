use Rattle.std.proofs.Common.{◌∙◌, refl}
use Rattle.space_mem.proofs.Strings.{page_string, zero_string}
use Rattle.space_mem.proofs.memory.Mem.push_bytes.Goals as goal

pub returns-in_ok-extend_from_slice-in-Some : goal.returns-in_ok-extend_from_slice-in-Some
returns-in_ok-extend_from_slice-in-Some c =
    page_string c.args.self.now.memory c.args.at c.args.count _ _ c.args.bytes.now.items _ c.in-Some.ensures.some c.requires c.bytes.ensures.bytes c.in_ok-extend_from_slice-in-Some.ensures.items

pub returns-in_ok-resize-in-None : goal.returns-in_ok-resize-in-None
returns-in_ok-resize-in-None c =
    zero_string c.args.self.now.memory c.args.at c.args.count _ _ c.args.bytes.now.items _ (c.in-None.ensures.none refl) c.requires (c.len.ensures ∙ c.args.bytes.now.ok.0) c.args.bytes.now.ok.0 c.in_ok-resize-in-None.ensures.items
