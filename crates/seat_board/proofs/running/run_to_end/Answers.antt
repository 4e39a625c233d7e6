use Rattle.std.proofs.Common.{◌≡◌, [], ◌∷◌, ◌++◌, length, ap, ◌∙◌, subst, arith}
use Rattle.seat_board.specs.Workers.{AreServed, IsFirst}
use Rattle.seat_board.specs.Passes.{known}
use Rattle.seat_board.proofs.Working.{all_ended, last_served, others_had, others_served, served_last}
use Rattle.seat_board.proofs.running.run_to_end.Goals as goal

pub gather-requires-clause-first : goal.gather-requires-clause-first
gather-requires-clause-first g c =
    let table = c.args.board.now.lock.table.shared.table_id in
    let ps = c.in_ok-seats.seats.items in
    let first = c.seats_beside.new.first in
    let rs = c.in_ok-served.served.items in
    let left = c.pop.new.self.items in
    let r = c.in-Some.one in
    let jobs : c.push.new.self.items ≡ ps ++ first ∷ [] = c.in_ok-push.ensures.items in
    let served : AreServed table (ps ++ first ∷ []) rs = subst (λ js. AreServed table js rs) jobs c.in_ok-served.ensures.each in
    let len : length rs ≡ length (ps ++ first ∷ []) = (let a = ap length jobs in let b = c.in_ok-served.ensures.len in let x = c.in_ok-served.served.ok in let y = c.push.new.self.ok in omega (arith, a, b, x, y)) in
    let split : rs ≡ left ++ r ∷ [] = c.in-Some.ensures.items in
    let p = c.in_ok-one.field-0 in
    let seats : c.in_ok-seats.seats.len ≡ length ps = (let o = c.in_ok-seats.seats.ok in omega (arith, o)) in
    let whole : IsFirst table (length ps) first = subst (λ n. IsFirst table n first) seats c.in_ok-seats.ensures.first.0 in
    let t = last_served table ps first rs left r p served len split c.in_ok-one.was whole in
    let many : length left ≡ c.pop.new.self.len = (let o = c.pop.new.self.ok in omega (arith, o)) in
    (subst (λ n. IsFirst table n p) many t.0, t.1)

pub gather-requires-clause-others : goal.gather-requires-clause-others
gather-requires-clause-others g c =
    let table = c.args.board.now.lock.table.shared.table_id in
    let ps = c.in_ok-seats.seats.items in
    let first = c.seats_beside.new.first in
    let rs = c.in_ok-served.served.items in
    let left = c.pop.new.self.items in
    let r = c.in-Some.one in
    let jobs : c.push.new.self.items ≡ ps ++ first ∷ [] = c.in_ok-push.ensures.items in
    let served : AreServed table (ps ++ first ∷ []) rs = subst (λ js. AreServed table js rs) jobs c.in_ok-served.ensures.each in
    let len : length rs ≡ length (ps ++ first ∷ []) = (let a = ap length jobs in let b = c.in_ok-served.ensures.len in let x = c.in_ok-served.served.ok in let y = c.push.new.self.ok in omega (arith, a, b, x, y)) in
    let split : rs ≡ left ++ r ∷ [] = c.in-Some.ensures.items in
    others_served table ps first rs left r served len split

pub returns-clause-ended : goal.returns-clause-ended
returns-clause-ended g c =
    let table = c.args.board.now.lock.table.shared.table_id in
    let ps = c.in_ok-seats.seats.items in
    let first = c.seats_beside.new.first in
    let rs = c.in_ok-served.served.items in
    let left = c.pop.new.self.items in
    let r = c.in-Some.one in
    let jobs : c.push.new.self.items ≡ ps ++ first ∷ [] = c.in_ok-push.ensures.items in
    let served : AreServed table (ps ++ first ∷ []) rs = subst (λ js. AreServed table js rs) jobs c.in_ok-served.ensures.each in
    let len : length rs ≡ length (ps ++ first ∷ []) = (let a = ap length jobs in let b = c.in_ok-served.ensures.len in let x = c.in_ok-served.served.ok in let y = c.push.new.self.ok in omega (arith, a, b, x, y)) in
    let split : rs ≡ left ++ r ∷ [] = c.in-Some.ensures.items in
    let p = c.in_ok-one.field-0 in
    let given = c.in_ok-seats.ensures.given in
    let many = c.in_ok-seats.ensures.count in
    let some = c.requires.some in
    all_ended
    table
    c.args.workers
    first
    p
    left
    (known c.in_ok-last.last)
    (let a = given.0 in let b = some.0 in omega (arith, a, b, many))
    given.1
    (served_last table ps first rs left r p served len split c.in_ok-one.was)
    (others_had table ps first rs left r served len split)
    c.in_ok-last.ensures.taken

pub returns-clause-first : goal.returns-clause-first
returns-clause-first g c =
    let table = c.args.board.now.lock.table.shared.table_id in
    let ps = c.in_ok-seats.seats.items in
    let first = c.seats_beside.new.first in
    let rs = c.in_ok-served.served.items in
    let left = c.pop.new.self.items in
    let r = c.in-Some.one in
    let jobs : c.push.new.self.items ≡ ps ++ first ∷ [] = c.in_ok-push.ensures.items in
    let served : AreServed table (ps ++ first ∷ []) rs = subst (λ js. AreServed table js rs) jobs c.in_ok-served.ensures.each in
    let len : length rs ≡ length (ps ++ first ∷ []) = (let a = ap length jobs in let b = c.in_ok-served.ensures.len in let x = c.in_ok-served.served.ok in let y = c.push.new.self.ok in omega (arith, a, b, x, y)) in
    let split : rs ≡ left ++ r ∷ [] = c.in-Some.ensures.items in
    let p = c.in_ok-one.field-0 in
    let seats : c.in_ok-seats.seats.len ≡ length ps = (let o = c.in_ok-seats.seats.ok in omega (arith, o)) in
    let whole : IsFirst table (length ps) first = subst (λ n. IsFirst table n first) seats c.in_ok-seats.ensures.first.0 in
    let t = last_served table ps first rs left r p served len split c.in_ok-one.was whole in
    let seated = c.in_ok-seats.ensures.first.1 in
    let gathered = c.in_ok-last.ensures.first in
    (gathered.0, gathered.1, (gathered.2.0 ∙ (t.2.0 ∙ seated.0), gathered.2.1 ∙ (t.2.1 ∙ seated.1)))
