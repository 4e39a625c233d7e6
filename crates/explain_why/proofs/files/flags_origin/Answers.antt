use Rattle.std.proofs.Common.{IfSome, codes, subst}
use Rattle.memory_model.specs.Memory.{byte_at}
use Rattle.explain_core.specs.declared.watching.Watched.TheVariants.{Byte}
use Rattle.explain_why.specs.Origin.{TellsOrigin}
use Rattle.explain_why.specs.Why.{all_events}
use Rattle.explain_why.proofs.files.flags_origin.Goals as goal

pub returns-in-Some-clause-told : goal.returns-in-Some-clause-told
returns-in-Some-clause-told c =
    let root = c.args.root.now in
    let p = c.args.path.now.items in
    let m = c.args.memory.now.memory in
    let a = c.flags_address-address.result in
    let told = subst (λ o. IfSome o (λ v. TellsOrigin root (Byte a) p all_events (byte_at m a) (codes "flags changed by") v.items)) c.in-Some.is (c.in_ok-text.ensures.told root c.requires.sound c.requires.runs) in
    subst (λ n. TellsOrigin root (Byte n) p all_events (byte_at m n) (codes "flags changed by") c.in-Some.text.items) c.flags_address-address.ensures told
