-- What a board's turn leaves of the jobs that are out.
use Rattle.std.proofs.Common.{◌≡◌, ◌≢◌, ℕ, true, true≢false, List, [], ◌∷◌, ◌++◌, Option, Some, None, ◌⊎◌, inl, inr, refl, sym, ap, ◌∙◌, subst, append-nil}
use Rattle.std.proofs.lemmas.Bool.{cases_eq}
use Rattle.arrayvec.specs.ArrayVec.{ArrayVec}
use Rattle.space_model.specs.Space.{Space, Top}
use Rattle.space_model.specs.Sound.{IsSound}
use Rattle.run_model.specs.Schedule.{is_local_at}
use Rattle.node_places.specs.Places.{Places}
use Rattle.det_laws.specs.Tops.{top_at}
use Rattle.det_laws.proofs.Tops.{top_other}
use Rattle.det_laws.proofs.Near.{local_enabled, going_on_stays}
use Rattle.det_core.specs.declared.entry.Entry.{Entry}
use Rattle.det_core.specs.declared.entry.Entry.TheVariants.{Ran, Moved, Met as HasMetAt}
use Rattle.det_core.specs.Legal.{Leads}
use Rattle.worker_pool.specs.declared.shop.Turn.{Turn}
use Rattle.worker_pool.specs.declared.shop.Turn.TheVariants.{Job as Hands, Met, Rest, Over}
use Rattle.board.specs.declared.job.Out.{Out}
use Rattle.board.specs.declared.job.Job.{Job}
use Rattle.board.specs.declared.done.Done.{Done}
use Rattle.board.specs.Jobs.{out_at}
use Rattle.board.specs.Listed.{OutsRun, OutsApart}
use Rattle.board.specs.Steps.{IsPutOut, HasMet, Meets, IsTaken, its_top}
use Rattle.board.specs.GoingOn.{HasGoneOn}
use Rattle.board.specs.Turns.{HandsOut, IsTurn, IsFinished}
use Rattle.board.specs.Value.{Shown}
use Rattle.board.proofs.Kept.{not_both}
use Rattle.board.proofs.Meetings.{copied_nodes}
use Rattle.board.proofs.Turns.{finished_meets_none, finished_goes_none}
use Rattle.seat_board.specs.Held.{Held}
use Rattle.seat_board.specs.Desk.{GoesOn, job_of, told_by}
use Rattle.seat_board.specs.Seats.{IsHeld, held_by, held_from, held_in}

-- a result is taken: the jobs in other slots are held as they were
pub held_taken : (old new : Shown) (d : Done) (h : Held) → OutsApart old.out → IsTaken old d new → IsHeld old h → h.slot ≢ d.slot → IsHeld new h
held_taken old new d h apart taken is ne =
    let o : Out = record { ticket = h.ticket; path = h.path } in
    let away : h.path.items ≢ d.path.items = λ e. ne (apart h.slot d.slot o taken.job is.0 taken.is.out (e ∙ sym taken.is.start.path)) in
    (taken.out.others h.slot ne ∙ is.0, ap (λ (b : Shown). top_at h.path.items b.tree) taken.others ∙ (top_other h.path.items d.path.items (its_top d) old.tree away ∙ is.1))

-- a call meets its children: each space that is out goes on as it was
held_met : (old new : Shown) (path : ArrayVec ℕ) (h : Held) → IsSound old.tree → OutsRun old.tree old.out → HasMet old path new → IsHeld old h → IsHeld new h
held_met old new path h sound runs met is =
    let o : Out = record { ticket = h.ticket; path = h.path } in
    let goes : is_local_at h.path.items 8 old.tree ≡ true = runs h.path.items (h.slot, (o, is.0, refl)) in
    let k = met.call in
    let apart : h.path.items ≢ path.items = λ e. not_both path.items 8 old.tree k (ap (λ p. is_local_at p 8 old.tree) (sym e) ∙ goes) met.may in
    let stays = going_on_stays h.path.items path.items 8 true sound.0 old.tree k sound.1.2 apart (local_enabled h.path.items 8 old.tree goes) met.may in
    (ap (λ (b : Shown). out_at b.out h.slot) met.others ∙ is.0, ap (λ (b : Shown). top_at h.path.items b.tree) met.others ∙ (stays ∙ is.1))

-- a space that is not out goes on where it stands
held_gone : (old new : Shown) (path : ArrayVec ℕ) (events : ℕ) (h : Held) → HasGoneOn old path events new → IsHeld old h → IsHeld new h
held_gone old new path events h gone is =
    let o : Out = record { ticket = h.ticket; path = h.path } in
    let away : h.path.items ≢ path.items = λ e. (let may = gone.may in may.inside) (h.slot, (o, is.0, e)) in
    let runs = gone.runs in
    (ap (λ (b : Shown). out_at b.out h.slot) gone.others ∙ is.0, ap (top_at h.path.items) runs.now ∙ (top_other h.path.items path.items runs.top old.tree away ∙ is.1))

-- a job is put out: it is in a slot that nobody had
held_put : (old new : Shown) (job : Job) (h : Held) → IsPutOut old job new → IsHeld old h → (h.slot ≢ job.slot) × IsHeld new h
held_put old new job h put is =
    let ne : h.slot ≢ job.slot = λ e. (let here : out_at old.out job.slot ≡ Some (record { ticket = h.ticket; path = h.path }) = ap (out_at old.out) (sym e) ∙ is.0 in let gone : out_at old.out job.slot ≡ None = put.vacant in cc) in
    (ne, (put.out.others h.slot ne ∙ is.0, ap (λ (b : Shown). top_at h.path.items b.tree) put.others ∙ is.1))

held_handed : (old new : Shown) (job : Job) (h : Held) → HandsOut old job new → IsHeld old h → (h.slot ≢ job.slot) × IsHeld new h
held_handed old new job h hands is = let put = held_put old hands.put job h hands.is is in (put.0, subst (λ (b : Shown). IsHeld b h) (sym hands.owed) put.1)

-- the job that is out in a slot, as the seat that has it knows it
pub held_is : (b : Shown) (slot : ℕ) (o : Out) (t : Top) → out_at b.out slot ≡ Some o → top_at o.path.items b.tree ≡ Some t → held_in b (Some slot) ≡ Some (record { slot = slot; ticket = o.ticket; path = o.path; start = t })
held_is b slot o t out top = ap (held_from b slot) out ∙ ap (held_by slot o) top

pub is_held : (b : Shown) (told : Option ℕ) (h : Held) → held_in b told ≡ Some h → IsHeld b h × (told ≡ Some h.slot)
is_held b None h e = cc
is_held b (Some slot) h e = go (out_at b.out slot) refl e
  where
    top : (o : Out) (t : Option Top) → out_at b.out slot ≡ Some o → top_at o.path.items b.tree ≡ t → held_by slot o t ≡ Some h → IsHeld b h × (Some slot ≡ Some h.slot)
    top o None is at e = cc
    top o (Some t) is at e =
        let same : record { slot = slot; ticket = o.ticket; path = o.path; start = t } ≡ h = cc in
        subst (λ (x : Held). IsHeld b x × (Some slot ≡ Some x.slot)) same ((is, at), refl)

    go : (o : Option Out) → out_at b.out slot ≡ o → held_from b slot o ≡ Some h → IsHeld b h × (Some slot ≡ Some h.slot)
    go None is e = cc
    go (Some o) is e = top o (top_at o.path.items b.tree) is refl e

-- entries lead to as many nodes as there were
leads_nodes : (es : List Entry) (s t : Space) (ps qs : Places) → Leads s ps es t qs → qs.nodes ≡ ps.nodes
leads_nodes [] s t ps qs led = ap (λ (x : Places). x.nodes) (sym led.1)
leads_nodes (Ran path events ∷ es) s t ps qs led = leads_nodes es led.0 t led.1 qs led.3 ∙ ap (λ (x : Places). x.nodes) led.2.1
leads_nodes (Moved path node ∷ es) s t ps qs led = let gone = led.2.gone in leads_nodes es led.0 t led.1 qs led.3 ∙ gone.nodes
leads_nodes (HasMetAt path ∷ es) s t ps qs led = leads_nodes es led.0 t led.1 qs led.3 ∙ copied_nodes _ path.items _ ps led.1 led.2.copied

-- what a turn of a board leaves
pub record Leaves (old : Shown) (t : Turn Job) (new : Shown) : Type 0 where
  pub boot : new.boot ≡ old.boot
  pub nodes : (let places = new.places in places.nodes) ≡ (let places = old.places in places.nodes)
  pub entries : List Entry
  pub history : new.history ≡ old.history ++ entries
  -- each job that is held is held still, in another slot than the job that is handed out
  pub held : (h : Held) → IsHeld old h → IsHeld new h × ((slot : ℕ) → (let told = told_by t in told.job) ≡ Some slot → h.slot ≢ slot)
  -- no other job comes out
  pub outs : (slot : ℕ) (o : Out) → out_at new.out slot ≡ Some o → ((let told = told_by t in told.job) ≡ Some slot) ⊎ (out_at old.out slot ≡ Some o)
  pub own : held_in new (let told = told_by t in told.job) ≡ job_of t
  pub over : (let told = told_by t in told.over) ≡ true → IsFinished new
  pub finished : IsFinished old → IsFinished new

-- nothing has changed
same_leaves : (old new : Shown) (t : Turn Job) → (let told = told_by t in told.job) ≡ None → job_of t ≡ None → new ≡ old → ((let told = told_by t in told.over) ≡ true → IsFinished old) → Leaves old t new
same_leaves old new t none its same over = record {
  boot = ap (λ (b : Shown). b.boot) same;
  nodes = ap (λ (b : Shown). (let places = b.places in places.nodes)) same;
  entries = [];
  history = ap (λ (b : Shown). b.history) same ∙ sym (append-nil old.history);
  held = λ h is. (subst (λ (b : Shown). IsHeld b h) (sym same) is, λ slot e. absurd (let a : None ≡ Some slot = sym none ∙ e in cc));
  outs = λ slot o is. inr (ap (λ (b : Shown). out_at b.out slot) (sym same) ∙ is);
  own = ap (held_in new) none ∙ sym its;
  over = λ e. subst IsFinished (sym same) (over e);
  finished = λ f. subst IsFinished (sym same) f;
}

-- what a call that met, and a space that went on where it stands, leave
moved_leaves : (old new : Shown) → new.boot ≡ old.boot → (let places = new.places in places.nodes) ≡ (let places = old.places in places.nodes) → new.out ≡ old.out → (entries : List Entry) → new.history ≡ old.history ++ entries → ((h : Held) → IsHeld old h → IsHeld new h)
    → (IsFinished old → ⊥) → Leaves old Met new
moved_leaves old new boot nodes out entries history held runs = record {
  boot = boot;
  nodes = nodes;
  entries = entries;
  history = history;
  held = λ h is. (held h is, λ slot e. absurd (let a : None ≡ Some slot = e in cc));
  outs = λ slot o is. inr (ap (λ os. out_at os slot) (sym out) ∙ is);
  own = refl;
  over = λ e. absurd (true≢false (sym e));
  finished = λ f. absurd (runs f);
}

met_leaves : (old new : Shown) (path : ArrayVec ℕ) → IsSound old.tree → OutsRun old.tree old.out → Meets old path new → Leaves old Met new
met_leaves old new path sound runs meets =
    let met = meets.is in
    moved_leaves
    old
    new
    (ap (λ (b : Shown). b.boot) met.others)
    (leads_nodes (met.moves ++ HasMetAt path ∷ []) old.tree new.tree old.places new.places met.led)
    (ap (λ (b : Shown). b.out) met.others)
    (met.moves ++ HasMetAt path ∷ [])
    (ap (λ (b : Shown). b.history) met.others)
    (λ h is. held_met old new path h sound runs met is)
    (λ f. finished_meets_none old new path f meets)

gone_leaves : (old new : Shown) (path : ArrayVec ℕ) (events : ℕ) → (IsFinished old → ⊥) → HasGoneOn old path events new → Leaves old Met new
gone_leaves old new path events runs gone =
    moved_leaves
    old
    new
    (ap (λ (b : Shown). b.boot) gone.others)
    (ap (λ (b : Shown). (let places = b.places in places.nodes)) gone.others)
    (ap (λ (b : Shown). b.out) gone.others)
    (Ran path events ∷ [])
    (ap (λ (b : Shown). b.history) gone.others)
    (λ h is. held_gone old new path events h gone is)
    runs

handed_leaves : (old gone new : Shown) (job : Job) → Leaves old Met gone → (IsFinished old → ⊥) → HandsOut gone job new → Leaves old (Hands job) new
handed_leaves old gone new job left runs hands =
    let put = hands.put in
    let is = hands.is in
    let out : out_at new.out job.slot ≡ Some (record { ticket = job.ticket; path = job.path }) = ap (λ (b : Shown). out_at b.out job.slot) hands.owed ∙ (let sets = is.out in sets.here) in
    let top : top_at job.path.items new.tree ≡ Some job.top.value = ap (λ (b : Shown). top_at job.path.items b.tree) hands.owed ∙ (ap (λ (b : Shown). top_at job.path.items b.tree) is.others ∙ is.top) in
    record {
      boot = ap (λ (b : Shown). b.boot) hands.owed ∙ (ap (λ (b : Shown). b.boot) is.others ∙ left.boot);
      nodes = ap (λ (b : Shown). (let places = b.places in places.nodes)) hands.owed ∙ (ap (λ (b : Shown). (let places = b.places in places.nodes)) is.others ∙ left.nodes);
      entries = left.entries;
      history = ap (λ (b : Shown). b.history) hands.owed ∙ (ap (λ (b : Shown). b.history) is.others ∙ left.history);
      held = λ h was. (let there = left.held h was in let handed = held_handed gone new job h hands there.0 in (handed.1, λ slot e. (λ f. handed.0 (let a : Some job.slot ≡ Some slot = e in let b : job.slot ≡ slot = cc in f ∙ sym b))));
      outs = λ slot o there. go slot o there (cases_eq slot job.slot);
      own = held_is new job.slot (record { ticket = job.ticket; path = job.path }) job.top.value out top;
      over = λ e. absurd (true≢false (sym e));
      finished = λ f. absurd (runs f);
    }
  where
    go : (slot : ℕ) (o : Out) → out_at new.out slot ≡ Some o → (slot ≡ job.slot) ⊎ (slot ≢ job.slot) → (Some job.slot ≡ Some slot) ⊎ (out_at old.out slot ≡ Some o)
    go slot o there (inl e) = inl (ap Some (sym e))
    go slot o there (inr ne) =
        let sets = hands.is.out in
        let before : out_at gone.out slot ≡ Some o = sym (sets.others slot ne) ∙ (ap (λ (b : Shown). out_at b.out slot) (sym hands.owed) ∙ there) in
        pick (left.outs slot o before)
      where
        pick : ((let told = told_by Met in told.job) ≡ Some slot) ⊎ (out_at old.out slot ≡ Some o) → (Some job.slot ≡ Some slot) ⊎ (out_at old.out slot ≡ Some o)
        pick (inl e) = absurd (let a : None ≡ Some slot = e in cc)
        pick (inr is) = inr is

pub turn_leaves : (seat : ℕ) (old new : Shown) (t : Turn Job) → IsSound old.tree → OutsRun old.tree old.out → IsTurn seat old t new → Leaves old t new
turn_leaves seat old new Met sound runs (inl met) = met_leaves old new met.0 sound runs met.1
turn_leaves seat old new Met sound runs (inr goes) = let went = goes.1.goes in gone_leaves old new went.0 went.1.events (λ f. finished_goes_none goes.1.node old new Met f went) went.1.gone
turn_leaves seat old new (Hands job) sound runs goes =
    let went = goes.1.goes in
    let none : IsFinished old → ⊥ = λ f. finished_goes_none goes.1.node old new (Hands job) f went in
    handed_leaves old went.0 new job (gone_leaves old went.0 job.path went.1.events none went.1.gone) none went.2
turn_leaves seat old new Rest sound runs rests = same_leaves old new Rest refl refl rests.2 (λ e. absurd (true≢false (sym e)))
turn_leaves seat old new Over sound runs over = same_leaves old new Over refl refl over.1 (λ e. over.0)

pub goes_leaves : (seat : ℕ) (done : Option Done) (old new : Shown) (t : Turn Job) → IsSound old.tree → OutsRun old.tree old.out → GoesOn seat done old t new → Leaves old t new
goes_leaves seat done old new t sound runs (inl turn) = turn_leaves seat old new t sound runs turn
goes_leaves seat done old new t sound runs (inr none) = subst (λ u. Leaves old u new) (sym none.1) (same_leaves old new Met refl refl none.2 (λ e. absurd (true≢false (sym e))))
