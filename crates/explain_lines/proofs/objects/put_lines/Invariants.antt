use Rattle.std.proofs.Common.{length}
use Rattle.json.specs.Tree.{items_tokens, json_tokens}
use Rattle.text_lines.specs.Lines.{lines_of}
use Rattle.explain_lines.specs.Objects.{json_value, objects_of}
use Rattle.explain_lines.proofs.Arrays.{EndsAs}
use Rattle.explain_lines.proofs.objects.put_lines.Given as goal

abbrev pub invariant-loop-rest : goal.invariant-loop-rest
invariant-loop-rest l = EndsAs l.fn.out l.out (items_tokens (objects_of (lines_of l.rest))) (json_tokens (json_value l.text))

abbrev pub decreases-loop-rest : goal.decreases-loop-rest
decreases-loop-rest l = length l.rest
