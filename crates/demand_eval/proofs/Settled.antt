-- What has settled stays as it is where it settles again.
use Rattle.std.proofs.Common.{◌≡◌, ℕ, zero, suc, pred, Bool, true, false, cond, refl, sym, ap, ap₂, ◌∙◌, subst}
use Rattle.space_model.specs.Stop.{is_stopped}
use Rattle.space_model.specs.Space.{Space, space, Top, Children, none, child, top_of, is_settled, are_settled}
use Rattle.space_model.specs.Sound.{IsSoundAt, AreSound}
use Rattle.space_model.specs.Path.{under}
use Rattle.space_model.proofs.Sound.{no_children}
use Rattle.run_model.specs.Demand.{run, settle, of_children}
use Rattle.run_model.proofs.Fuel.{stopped_rests}
use Rattle.run_model.proofs.Run.{run-run_on, run_on-rests}
use Rattle.run_model.proofs.Settled.{each, everyone-each, settle-each}
use Rattle.demand_eval.specs.Turns.{IsSoundBelow, with_everyone}

both : (a b : Bool) → cond a b false ≡ true → (a ≡ true) × (b ≡ true)
both true b h = (refl, h)
both false b h = cc

each_same : (f : Space → Space) (levels fuel least : ℕ) (cs : Children) → AreSound levels fuel least cs → are_settled cs ≡ true → ((c : Space) → IsSoundAt (pred levels) false fuel c → is_settled c ≡ true → f c ≡ c) → each f cs ≡ cs
each_same f levels fuel least none ok all same = refl
each_same f zero fuel least (child n s rest) ok all same = absurd ok
each_same f (suc levels) fuel least (child n s rest) ok all same =
    let parts = both (is_settled s) (are_settled rest) all in
    ap₂ (child n) (same s ok.2 parts.0) (each_same f (suc levels) fuel (suc n) rest ok.3 parts.1 same)

run_same : (levels : ℕ) (s : Space) → is_stopped (top_of s).status ≡ true → run levels s ≡ s
run_same levels s stopped = run-run_on levels s ∙ run_on-rests (of_children levels) levels s (stopped_rests levels (top_of s) stopped)

settle_same : (levels : ℕ) (root : Bool) (fuel : ℕ) (s : Space) → IsSoundAt levels root fuel s → is_settled s ≡ true → settle levels s ≡ s
settle_same zero root fuel (space t cs) ok all =
    let parts = both (is_stopped t.status) (are_settled cs) all in
    let empty : cs ≡ none = no_children fuel 0 cs ok.1 in
    settle-each zero root fuel (space t cs) ok ∙ ap (under (each (settle zero))) (run_same zero (space t cs) parts.0) ∙ rw empty refl
settle_same (suc levels) root fuel (space t cs) ok all =
    let parts = both (is_stopped t.status) (are_settled cs) all in
    settle-each (suc levels) root fuel (space t cs) ok ∙ ap (under (each (settle levels))) (run_same (suc levels) (space t cs) parts.0)
    ∙ ap (space t) (each_same (settle levels) (suc levels) fuel 0 cs ok.1 parts.1 (λ c h. settle_same levels false fuel c h))

settled_stays : (levels : ℕ) (root : Bool) (fuel : ℕ) (t : Top) (cs : Children) → IsSoundAt levels root fuel (space t cs) → are_settled cs ≡ true → space t cs ≡ with_everyone levels (space t cs)
settled_stays zero root fuel t cs ok all = let empty : cs ≡ none = no_children fuel 0 cs ok.1 in rw empty refl
settled_stays (suc levels) root fuel t cs ok all =
    ap (space t) (sym (everyone-each (of_children (suc levels)) (suc levels) fuel cs ok.1 ∙ each_same (settle levels) (suc levels) fuel 0 cs ok.1 all (λ c h. settle_same levels false fuel c h)))

-- a space whose children have all settled is as it is once they settle
pub stays : (levels : ℕ) (t : Top) (s : Space) (cs : Children) → IsSoundBelow levels s → space t cs ≡ s → are_settled cs ≡ true → s ≡ with_everyone levels s
stays levels t s cs ok is all =
    let here : IsSoundBelow levels (space t cs) = subst (IsSoundBelow levels) (sym is) ok in
    subst (λ r. r ≡ with_everyone levels r) is (settled_stays levels here.root here.fuel t cs here.sound all)
