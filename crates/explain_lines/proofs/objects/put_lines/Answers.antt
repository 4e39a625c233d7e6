use Rattle.std.proofs.Common.{rules}
use Rattle.json.specs.Tree.{json_tokens}
use Rattle.explain_lines.specs.Objects.{json_value}
use Rattle.explain_lines.proofs.Arrays.{begins, ends}
use Rattle.explain_lines.proofs.objects.put_lines.Goals as goal

pub loop-rest-init : goal.loop-rest-init
loop-rest-init c = begins c.args.out.now c.begin_array.new.self c.args.text.now c.begin_array.ensures.room.0 (search rules)

pub returns : goal.returns
returns c = ends c.end_array.result c.args.out.now c.loop-rest.out c.end_array.new.self c.loop-rest.rest.now (json_tokens (json_value c.args.text.now)) (search rules) c.loop-rest.invariant c.end_array.ensures
