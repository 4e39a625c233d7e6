-- Tops that are moved out of a tree one after the other, and put back.
use Rattle.std.proofs.Common.{◌≡◌, ◌≢◌, ℕ, false, List, [], ◌∷◌, ◌++◌, Some, refl, sym, ◌∙◌, ap, ap₂, subst, true≢false}
use Rattle.std.specs.Prelude.{option_map, Option, None}
use Rattle.std.specs.List.{All}
use Rattle.std.proofs.lemmas.List.Elements.{All-nil, All-cons, All-head, All-tail, All-append, All-weaker}
use Rattle.space_model.specs.Stop.{is_stopped}
use Rattle.space_model.specs.Space.{Top, Space, space, top_of}
use Rattle.space_model.specs.Path.{at, replace_top, with_top}
use Rattle.det_laws.specs.Tops.{top_at}
use Rattle.det_laws.specs.Moved.{Placed, paths_of, with_tops, AreApart, HasSpace, HasStopped, IsTaken, AreOut}
use Rattle.det_laws.proofs.Tops.{stands_still, top_other, stands_there, last_stays, tops_pass, puts_itself}

-- a path is none of these
abbrev pub Avoids : List ℕ → List (List ℕ) → Type 0
Avoids p qs = All (λ q. p ≢ q) qs

-- where a top stands, a space does
pub top_space : (p : List ℕ) (s : Space) (t : Top) → top_at p s ≡ Some t → (c : Space) × (at p s ≡ Some c) × (top_of c ≡ t)
top_space p s t is = go (at p s) refl is
  where
    go : (o : Option Space) → at p s ≡ o → option_map top_of o ≡ Some t → (c : Space) × (at p s ≡ Some c) × (top_of c ≡ t)
    go None found is = cc
    go (Some c) found is = (c, found, cc)

top_put : (p : List ℕ) (t u : Top) (s : Space) → top_at p s ≡ Some u → top_at p (with_top p t s) ≡ Some t
top_put p t u s is = let c = top_space p s u is in ap (option_map top_of) (stands_there p t s c.0 c.1) ∙ ap Some (replaced c.0)
  where
    replaced : (c : Space) → top_of (replace_top t c) ≡ t
    replaced (space v cs) = refl

pub tops-append : (xs ys : List Placed) (s : Space) → with_tops (xs ++ ys) s ≡ with_tops xs (with_tops ys s)
tops-append [] ys s = refl
tops-append (x ∷ xs) ys s = ap (with_top x.0 x.1) (tops-append xs ys s)

-- tops at other paths leave the top at a path, and pass one that is put there
pub other_tops : (p : List ℕ) (xs : List Placed) (s : Space) → Avoids p (paths_of xs) → top_at p (with_tops xs s) ≡ top_at p s
other_tops p [] s away = refl
other_tops p (x ∷ xs) s away =
    let P : List ℕ → Type 0 = λ q. p ≢ q in
    top_other p x.0 x.1 (with_tops xs s) (All-head P x.0 (paths_of xs) away) ∙ other_tops p xs s (All-tail P x.0 (paths_of xs) away)

pass_tops : (p : List ℕ) (t : Top) (xs : List Placed) (s : Space) → Avoids p (paths_of xs) → with_tops xs (with_top p t s) ≡ with_top p t (with_tops xs s)
pass_tops p t [] s away = refl
pass_tops p t (x ∷ xs) s away =
    let P : List ℕ → Type 0 = λ q. p ≢ q in
    let ne : x.0 ≢ p = λ e. All-head P x.0 (paths_of xs) away (sym e) in
    ap (with_top x.0 x.1) (pass_tops p t xs s (All-tail P x.0 (paths_of xs) away)) ∙ tops_pass x.0 p x.1 t (with_tops xs s) ne

-- tops that stand where they are put change nothing
tops_themselves : (xs : List Placed) (s : Space) → All (λ x. top_at x.0 s ≡ Some x.1) xs → with_tops xs s ≡ s
tops_themselves [] s stand = refl
tops_themselves (x ∷ xs) s stand =
    let P : Placed → Type 0 = λ y. top_at y.0 s ≡ Some y.1 in
    let rest = tops_themselves xs s (All-tail P x xs stand) in
    ap (with_top x.0 x.1) rest ∙ puts_itself x.0 x.1 s (All-head P x xs stand)

pub paths-append : (xs ys : List Placed) → paths_of (xs ++ ys) ≡ paths_of xs ++ paths_of ys
paths-append [] ys = refl
paths-append (x ∷ xs) ys = ap (λ ps. x.0 ∷ ps) (paths-append xs ys)

apart-append : (ps : List (List ℕ)) (p : List ℕ) → AreApart ps → Avoids p ps → AreApart (ps ++ p ∷ [])
apart-append [] p apart away = (All-nil (λ q. p ≢ q), tt)
apart-append (q ∷ ps) p apart away =
    let P : List ℕ → Type 0 = λ r. p ≢ r in
    let ne : q ≢ p = λ e. All-head P q ps away (sym e) in
    (All-append (λ r. q ≢ r) ps (p ∷ []) apart.0 (All-cons (λ r. q ≢ r) p [] ne (All-nil (λ r. q ≢ r))), apart-append ps p apart.1 (All-tail P q ps away))

-- a list of tops whose last path is p
abbrev LastIs : List ℕ → List (List ℕ) → List Placed → Type 0
LastIs p qs ts = (rest : List Placed) × (t : Top) × (ts ≡ rest ++ (p, t) ∷ []) × (paths_of rest ≡ qs)

last_of : (qs : List (List ℕ)) (p : List ℕ) (ts : List Placed) → paths_of ts ≡ qs ++ p ∷ [] → LastIs p qs ts
last_of [] p [] is = cc
last_of [] p (t ∷ []) is = let e : t.0 ≡ p = cc in ([], t.1, ap (λ q. (q, t.1) ∷ []) e, refl)
last_of [] p (t ∷ u ∷ ts) is = cc
last_of (q ∷ qs) p [] is = cc
last_of (q ∷ qs) p (t ∷ ts) is =
    let e : t.0 ≡ q = cc in
    let more : paths_of ts ≡ qs ++ p ∷ [] = cc in
    let rest = last_of qs p ts more in
    (t ∷ rest.0, rest.1, ap (λ xs. t ∷ xs) rest.2, ap₂ (λ x xs. x ∷ xs) e rest.3)

-- a top that runs is not where one is out
running_away : (p : List ℕ) (t : Top) (now : Space) (ps : List (List ℕ)) → All (HasStopped now) ps → top_at p now ≡ Some t → is_stopped t.status ≡ false → Avoids p ps
running_away p t now ps held is runs = All-weaker (HasStopped now) (λ q. p ≢ q) (λ q h. λ e. differ q h e) ps held
  where
    differ : (q : List ℕ) → HasStopped now q → p ≡ q → ⊥
    differ q h e =
        let same : Some t ≡ Some h.0 = sym is ∙ ap (λ r. top_at r now) e ∙ h.1 in
        let tops : t ≡ h.0 = cc in
        true≢false (sym h.2 ∙ ap (λ u. is_stopped u.status) (sym tops) ∙ runs)

-- nothing is out
pub none_out : (s : Space) → AreOut [] s s
none_out s = record { apart = tt; stood = All-nil (λ x. top_at x.0 s ≡ Some x.1); held = All-nil (HasStopped s); back = λ ts is. no_tops ts is }
  where
    no_tops : (ts : List Placed) → paths_of ts ≡ [] → with_tops ts s ≡ with_tops ts s
    no_tops ts is = refl

-- one more is taken out
pub one_more_out : (out : List Placed) (p : List ℕ) (t : Top) (start now later : Space) → AreOut out start now → IsTaken p t now later
    → AreOut (out ++ (p, t) ∷ []) start later
one_more_out out p t start now later so_far taken =
    let away : Avoids p (paths_of out) = running_away p t now (paths_of out) so_far.held taken.stood taken.runs in
    let same : with_tops out now ≡ start = so_far.back out refl ∙ tops_themselves out start so_far.stood in
    let stood : top_at p start ≡ Some t = ap (top_at p) (sym same) ∙ other_tops p out now away ∙ taken.stood in
    let P : Placed → Type 0 = λ x. top_at x.0 start ≡ Some x.1 in
    record {
      apart = subst AreApart (sym (paths-append out ((p, t) ∷ []))) (apart-append (paths_of out) p so_far.apart away);
      stood = All-append P out ((p, t) ∷ []) so_far.stood (All-cons P (p, t) [] stood (All-nil P));
      held = subst (All (HasStopped later)) (sym (paths-append out ((p, t) ∷ []))) (still_held away);
      back = λ ts is. put_back away ts (is ∙ paths-append out ((p, t) ∷ []));
    }
  where
    keeps : (q : List ℕ) → p ≢ q → HasStopped now q → HasStopped later q
    keeps q ne h = (h.0, ap (top_at q) taken.now ∙ top_other q p taken.other now (λ e. ne (sym e)) ∙ h.1, h.2)

    each_kept : (ps : List (List ℕ)) → Avoids p ps → All (HasStopped now) ps → All (HasStopped later) ps
    each_kept [] away held = All-nil (HasStopped later)
    each_kept (q ∷ ps) away held =
        let P : List ℕ → Type 0 = λ r. p ≢ r in
        All-cons (HasStopped later) q ps (keeps q (All-head P q ps away) (All-head (HasStopped now) q ps held)) (each_kept ps (All-tail P q ps away) (All-tail (HasStopped now) q ps held))

    still_held : Avoids p (paths_of out) → All (HasStopped later) (paths_of out ++ p ∷ [])
    still_held away =
        let here : HasStopped later p = (taken.other, ap (top_at p) taken.now ∙ top_put p taken.other t now taken.stood, taken.stopped) in
        All-append (HasStopped later) (paths_of out) (p ∷ []) (each_kept (paths_of out) away so_far.held) (All-cons (HasStopped later) p [] here (All-nil (HasStopped later)))

    put_back : Avoids p (paths_of out) → (ts : List Placed) → paths_of ts ≡ paths_of out ++ p ∷ [] → with_tops ts later ≡ with_tops ts start
    put_back away ts is =
        let l = last_of (paths_of out) p ts is in
        let rest = l.0 in
        let u = l.1 in
        let avoids : Avoids p (paths_of rest) = subst (Avoids p) (sym l.3) away in
        let onto : with_top p u later ≡ with_top p u now = ap (with_top p u) taken.now ∙ last_stays p u taken.other now in
        ap (λ xs. with_tops xs later) l.2
        ∙ tops-append rest ((p, u) ∷ []) later
        ∙ ap (with_tops rest) onto
        ∙ pass_tops p u rest now avoids
        ∙ ap (with_top p u) (so_far.back rest l.3)
        ∙ sym (pass_tops p u rest start avoids)
        ∙ sym (tops-append rest ((p, u) ∷ []) start)
        ∙ ap (λ xs. with_tops xs start) (sym l.2)

-- a space stays where other tops are put
pub spaces_stay : (q : List ℕ) (t : Top) (s : Space) (ps : List (List ℕ)) → All (HasSpace s) ps → All (HasSpace (with_top q t s)) ps
spaces_stay q t s ps all = All-weaker (HasSpace s) (HasSpace (with_top q t s)) (λ p h. stands_still p q t s h.0 h.1) ps all

-- where one that has stopped stands, a space does
pub stopped_stand : (s : Space) (ps : List (List ℕ)) → All (HasStopped s) ps → All (HasSpace s) ps
stopped_stand s ps all = All-weaker (HasStopped s) (HasSpace s) (λ p h. let c = top_space p s h.0 h.1 in (c.0, c.1)) ps all
