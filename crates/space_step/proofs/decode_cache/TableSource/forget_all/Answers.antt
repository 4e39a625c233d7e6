use Rattle.space_step.proofs.decode_cache.TableSource.forget_all.Goals as goal

pub returns : goal.returns
returns c = λ u v agrees. c.renew.ensures agrees.0 v
