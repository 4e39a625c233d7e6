-- Pages that are taken over from a source, one after the other.
use Rattle.std.specs.Prelude.{◌≡◌, ℕ, ◌+◌, ◌*◌, ◌<◌, cond, List, [], ◌∷◌, ◌++◌, All, map, length, Option, Some, Result, Ok, Err, OnOk}
use Rattle.std.proofs.Common.{refl, sym, ◌∙◌, ap, arith, inl, inr, subst, eq-eqb, ne_eqb, get_or}
use Rattle.std.proofs.lemmas.Bool.{cases_eq, cases_lt}
use Rattle.std.proofs.lemmas.List.{append_assoc, append-nil, map-append}
use Rattle.std.proofs.lemmas.List.Elements.{All-cons, All-head, All-map, All-nil, All-pop, All-tail, All-weaker}
use Rattle.memory_model.specs.Sparse.{put, value_at}
use Rattle.memory_model.specs.Memory.{Memory, byte_at, permission_at, with_permissions}
use Rattle.memory_model.proofs.Rows.{value_at-put_same, value_at-put_other}
use Rattle.memory_model.proofs.Runs.{byte_at-with_permissions, permission_at-with_permissions, permission_at-with_permissions_out}
use Rattle.page_marks.specs.Marks.{mark_of}
use Rattle.page_store.specs.declared.PageRef.{PageRef}
use Rattle.page_tree.specs.declared.tree_ref.TreeRef.{TreeRef}
use Rattle.page_tree.specs.Blocks.{byte_in, is_own_in, IsWhole}
use Rattle.page_tree.specs.Ready.{ReadyRoot}
use Rattle.page_tree.specs.Replaceable.{ReplaceableRoot}
use Rattle.page_tree.specs.Rows.{IsReplacedRow, SameOwners, SameRow}
use Rattle.page_tree.specs.TreeRefs.{root_own, root_page, root_row, AreWholeRoot}
use Rattle.space_mem.specs.declared.table.PageTable.{PageTable}
use Rattle.space_mem.specs.declared.taking.Put.{Put}
use Rattle.space_mem.specs.Held.{Held, KeepsMarks, Marks, SamePage}
use Rattle.space_mem.specs.Tables.{IsTable, held_of, marked_of, memory_of, owned_of}
use Rattle.space_mem.specs.Taken.{CanPut, IsPrepared, IsPutting, IsReadyPut, IsTakenOver, put_page}
use Rattle.space_mem.proofs.Kept.{keeps_then}
use Rattle.space_mem.proofs.Tables.{byte_at-high, byte_at-page, marked_at, marked_high, owned_at, owned_high, permission_at-high, permission_at-of}
use Rattle.space_mem.proofs.Updates.{owned_row, row_memory}

-- ---- what is prepared

pub prepared_none : (each : List ℕ) (t : PageTable) → IsTable t → IsPrepared each t t
prepared_none each t table = record {
  table = table;
  memory = refl;
  owned = refl;
  ready = λ p can. can;
  mark = λ p low. inl refl;
  other = λ p low none. refl;
}

-- one page of several
pub prepared_more : (each : List ℕ) (i : ℕ) (t s u : PageTable) → i < length each → IsPrepared each t s → IsPrepared (get_or each i 0 ∷ []) s u → IsPrepared each t u
prepared_more each i t s u within before one = record {
  table = one.table;
  memory = one.memory ∙ before.memory;
  owned = one.owned ∙ before.owned;
  ready = λ p can. one.ready p (before.ready p can);
  mark = λ p low. elim (one.mark p low) [
    | inl same ↦ elim (before.mark p low) [ inl was ↦ inl (same ∙ was) | inr is ↦ inr (same ∙ is) ]
    | inr is ↦ inr is
  ];
  other = λ p low none. one.other p low (All-cons (λ q. p ≡ q → ⊥) (get_or each i 0) [] (none i 0 within) (All-nil (λ q. p ≡ q → ⊥))) ∙ before.other p low none;
}

-- one thing after the other
pub prepared_then : (each : List ℕ) (t s u : PageTable) → IsPrepared each t s → IsPrepared each s u → IsPrepared each t u
prepared_then each t s u before after = record {
  table = after.table;
  memory = after.memory ∙ before.memory;
  owned = after.owned ∙ before.owned;
  ready = λ p can. after.ready p (before.ready p can);
  mark = λ p low. elim (after.mark p low) [
    | inl same ↦ elim (before.mark p low) [ inl was ↦ inl (same ∙ was) | inr is ↦ inr (same ∙ is) ]
    | inr is ↦ inr is
  ];
  other = λ p low none. after.other p low none ∙ before.other p low none;
}

-- the same page twice
pub prepared_again : (page : ℕ) (t s u : PageTable) → IsPrepared (page ∷ []) t s → IsPrepared (page ∷ []) s u → IsPrepared (page ∷ []) t u
prepared_again page t s u before one = prepared_more (page ∷ []) 0 t s u (omega arith) before one

-- it is dirty now
pub prepared_mark : (t s : PageTable) (page : ℕ) → page < 1048576 → IsTable s → s.pages ≡ t.pages → ◌≡◌ {A = Held} (held_of s) (record (held_of t) { dirty = put (held_of t).dirty page 1 }) → IsPrepared (page ∷ []) t s
prepared_mark t s page within table same held =
    let marks : (q : ℕ) → q < 1048576 → mark_of s.dirty q ≡ value_at (put (marked_of t.dirty) page 1) q = λ q low. sym (marked_at s.dirty q low) ∙ ap (λ (h : Held). value_at h.dirty q) held in
    let beside : (q : ℕ) → q < 1048576 → (q ≡ page → ⊥) → mark_of s.dirty q ≡ mark_of t.dirty q = λ q low other. marks q low ∙ value_at-put_other (marked_of t.dirty) page 1 q other ∙ marked_at t.dirty q low in
    record {
      table = table;
      memory = ap memory_of same;
      owned = ap owned_of same;
      ready = λ p can. subst (ReplaceableRoot p) (sym same) can;
      mark = λ p low. elim (cases_eq p page) [
        | inl is ↦ inr (marks p low ∙ ap (value_at (put (marked_of t.dirty) page 1)) is ∙ value_at-put_same (marked_of t.dirty) page 1)
        | inr other ↦ inl (beside p low other)
      ];
      other = λ p low none. beside p low (none 0 0 (omega arith));
    }

pub marked_now : (t s : PageTable) (page : ℕ) → page < 1048576 → ◌≡◌ {A = Held} (held_of s) (record (held_of t) { dirty = put (held_of t).dirty page 1 }) → mark_of s.dirty page ≡ 1
marked_now t s page within held = sym (marked_at s.dirty page within) ∙ ap (λ (h : Held). value_at h.dirty page) held ∙ value_at-put_same (marked_of t.dirty) page 1

-- nothing that is seen has changed
pub prepared_same : (each : List ℕ) (t s : PageTable) → IsTable s → s.pages ≡ t.pages → ◌≡◌ {A = Held} (held_of s) (held_of t) → IsPrepared each t s
prepared_same each t s table same held =
    let marks : (q : ℕ) → q < 1048576 → mark_of s.dirty q ≡ mark_of t.dirty q = λ q low. sym (marked_at s.dirty q low) ∙ ap (λ (h : Held). value_at h.dirty q) held ∙ marked_at t.dirty q low in
    record {
      table = table;
      memory = ap memory_of same;
      owned = ap owned_of same;
      ready = λ p can. subst (ReplaceableRoot p) (sym same) can;
      mark = λ p low. inl (marks p low);
      other = λ p low none. marks p low;
    }

-- a part of the tree is the table's own now
pub prepared_part : (each : List ℕ) (t : PageTable) (x : TreeRef) → IsTable t → SameRow 1048576 (root_row t.pages) (root_row x) → SameOwners 1048576 (root_row t.pages) (root_row x) → ((p : ℕ) → ReplaceableRoot p t.pages → ReplaceableRoot p x)
    → (AreWholeRoot t.pages → AreWholeRoot x) → IsPrepared each t (record t { pages = x })
prepared_part each t x table same owners stays whole = record {
  table = record {
    whole = whole table.whole;
    permission = λ p low. omega (arith, same.permission p low, table.permission p low);
    marked = λ p low own. table.marked p low (sym (owners p low) ∙ own);
    bare = table.bare;
  };
  memory = row_memory t.pages x same;
  owned = owned_row t.pages x owners;
  ready = stays;
  mark = λ p low. inl refl;
  other = λ p low none. refl;
}

-- what is held for a page stays ready
pub ready_stays : (each : List ℕ) (t s : PageTable) (source : Memory) (put : Put) → IsPrepared each t s → IsReadyPut t source put → IsReadyPut s source put
ready_stays each t s source put prepared ready = record {
  within = ready.within;
  byte = ready.byte;
  whole = ready.whole;
  ready = prepared.ready put.page ready.ready;
  marked = elim (prepared.mark put.page ready.within) [ inl same ↦ same ∙ ready.marked | inr is ↦ is ];
}

pub prepared_keeps : (each : List ℕ) (t s : PageTable) → IsPrepared each t s → (page : ℕ) → All (λ taken. page ≡ taken → ⊥) each → KeepsMarks (held_of t) (held_of s) page
prepared_keeps each t s prepared page none = record {
  owned = ap (λ o. value_at o page) prepared.owned;
  dirty = elim (cases_lt page 1048576) [
    | inl low ↦ marked_at s.dirty page low ∙ prepared.other page low none ∙ sym (marked_at t.dirty page low)
    | inr high ↦ marked_high s.dirty page high ∙ sym (marked_high t.dirty page high)
  ];
}

pub prepared_marks : (each : List ℕ) (t s : PageTable) → IsPrepared each t s → Marks (held_of t) (held_of s)
prepared_marks each t s prepared page below clean =
    let zero : mark_of s.dirty page ≡ 0 = sym (marked_at s.dirty page below) ∙ clean in (
      elim (prepared.mark page below) [
        | inl same ↦ marked_at t.dirty page below ∙ sym same ∙ zero
        | inr is ↦ absurd (omega (arith, zero, is))
      ],
      λ k low. ap (λ m. byte_at m (4096 * page + k)) prepared.memory,
    )

-- ---- one page is exchanged

pub replaced_here : (t n : TreeRef) (q : ℕ) (kept : Option PageRef) → q < 1048576 → IsReplacedRow 1048576 q kept (root_row t) (root_row n) → (k : ℕ) → k < 4096 → byte_at (memory_of n) (4096 * q + k) ≡ byte_in kept k
replaced_here t n q kept within row k low = byte_at-page n q k within low ∙ ap (λ o. byte_in o k) (row.page q within ∙ ap (λ b. cond b kept (root_page t q)) (eq-eqb q q refl))

pub replaced_beside : (t n : TreeRef) (q : ℕ) (kept : Option PageRef) → IsReplacedRow 1048576 q kept (root_row t) (root_row n) → (p : ℕ) → (p ≡ q → ⊥) → SamePage (memory_of n) (memory_of t) p
replaced_beside t n q kept row p other k low = elim (cases_lt p 1048576) [
  | inl within ↦ byte_at-page n p k within low ∙ ap (λ o. byte_in o k) (row.page p within ∙ ap (λ b. cond b kept (root_page t p)) (ne_eqb p q other)) ∙ sym (byte_at-page t p k within low)
  | inr high ↦ byte_at-high n (4096 * p + k) (omega arith) ∙ sym (byte_at-high t (4096 * p + k) (omega arith))
]

pub replaced_permission : (t n : TreeRef) (q : ℕ) (kept : Option PageRef) → IsReplacedRow 1048576 q kept (root_row t) (root_row n) → (p : ℕ) → permission_at (memory_of n) p ≡ permission_at (memory_of t) p
replaced_permission t n q kept row p = elim (cases_lt p 1048576) [
  | inl within ↦ permission_at-of n p within ∙ row.permission p within ∙ sym (permission_at-of t p within)
  | inr high ↦ permission_at-high n p high ∙ sym (permission_at-high t p high)
]

pub replaced_owned : (t n : TreeRef) (q : ℕ) (kept : Option PageRef) → IsReplacedRow 1048576 q kept (root_row t) (root_row n) → (p : ℕ) → (p ≡ q → ⊥) → value_at (owned_of n) p ≡ value_at (owned_of t) p
replaced_owned t n q kept row p other = elim (cases_lt p 1048576) [
  | inl within ↦ owned_at n p within ∙ ap (λ b. cond b 1 0) (row.own p within ∙ ap (λ b. cond b (is_own_in kept) (root_own t p)) (ne_eqb p q other)) ∙ sym (owned_at t p within)
  | inr high ↦ owned_high n p high ∙ sym (owned_high t p high)
]

-- ---- all that is held is put in

pub put_start : (t s : PageTable) (source : Memory) (each : List ℕ) (puts : List Put) → IsPrepared each t s → map put_page puts ≡ each → All (IsReadyPut s source) puts → IsPutting t source each s puts
put_start t s source each puts prepared pages ready = record {
  done = [];
  split = append-nil (map put_page puts) ∙ pages;
  table = prepared.table;
  ready = ready;
  taken = All-nil (SamePage (memory_of s.pages) source);
  permission = λ page. ap (λ m. permission_at m page) prepared.memory;
  same = λ page none k low. ap (λ m. byte_at m (4096 * page + k)) prepared.memory;
  keeps = prepared_keeps each t s prepared;
  dirty = subst (All (λ page. value_at (held_of s).dirty page ≡ 1)) pages (All-map (λ page. value_at (held_of s).dirty page ≡ 1) put_page puts
      (All-weaker (IsReadyPut s source) (λ (put : Put). value_at (held_of s).dirty put.page ≡ 1) (λ put r. marked_at s.dirty put.page r.within ∙ r.marked) puts ready));
}

middle : (P : ℕ → Type 0) (xs ys : List ℕ) (x : ℕ) → All P (xs ++ x ∷ ys) → P x
middle P [] ys x all = All-head P x ys all
middle P (y ∷ xs) ys x all = middle P xs ys x (All-tail P y (xs ++ x ∷ ys) all)

pub put_step : (t s : PageTable) (source : Memory) (each : List ℕ) (n : TreeRef) (puts rest : List Put) (put : Put) → puts ≡ rest ++ put ∷ [] → IsPutting t source each s puts
    → IsReplacedRow 1048576 put.page put.kept (root_row s.pages) (root_row n) → ((p : ℕ) → ReplaceableRoot p s.pages → ReplaceableRoot p n) → (IsWhole put.kept → AreWholeRoot s.pages → AreWholeRoot n)
    → IsPutting t source each (record s { pages = n }) rest
put_step t s source each n puts rest put is before row stays whole =
    let both = All-pop (IsReadyPut s source) puts rest (Some put) is before.ready in
    let r : IsReadyPut s source put = both.1 in
    let page : ℕ = put.page in
    let u : PageTable = record s { pages = n } in
    let here : SamePage (memory_of n) source page = λ k low. replaced_here s.pages n page put.kept r.within row k low ∙ r.byte k low in
    let beside : (p : ℕ) → (p ≡ page → ⊥) → SamePage (memory_of n) (memory_of s.pages) p = replaced_beside s.pages n page put.kept row in
    let split : map put_page rest ++ page ∷ before.done ≡ each =
    sym (append_assoc (map put_page rest) (page ∷ []) before.done) ∙ ap (λ l. l ++ before.done) (sym (map-append put_page rest (put ∷ []))) ∙ ap (λ l. map put_page l ++ before.done) (sym is) ∙ before.split in
    let none_here : (p : ℕ) → All (λ taken. p ≡ taken → ⊥) each → p ≡ page → ⊥ = λ p none. middle (λ taken. p ≡ taken → ⊥) (map put_page rest) before.done page (subst (All (λ taken. p ≡ taken → ⊥)) (sym split) none) in
    record {
      done = page ∷ before.done;
      split = split;
      table = record {
        whole = whole r.whole before.table.whole;
        permission = λ p low. omega (arith, row.permission p low, before.table.permission p low);
        marked = λ p low own. elim (cases_eq p page) [
          | inl same ↦ ap (mark_of s.dirty) same ∙ r.marked
          | inr other ↦ before.table.marked p low (sym (row.own p low ∙ ap (λ b. cond b (is_own_in put.kept) (root_own s.pages p)) (ne_eqb p page other)) ∙ own)
        ];
        bare = before.table.bare;
      };
      ready = All-weaker (IsReadyPut s source) (IsReadyPut u source) (λ other o. record { within = o.within; byte = o.byte; whole = o.whole; ready = stays other.page o.ready; marked = o.marked }) rest both.0;
      taken = All-cons (SamePage (memory_of n) source) page before.done here (All-weaker (SamePage (memory_of s.pages) source) (SamePage (memory_of n) source)
          (λ p was. elim (cases_eq p page) [
            | inl same ↦ subst (SamePage (memory_of n) source) (sym same) here
            | inr other ↦ λ k low. beside p other k low ∙ was k low
          ]) before.done before.taken);
      permission = λ p. replaced_permission s.pages n page put.kept row p ∙ before.permission p;
      same = λ p none k low. beside p (none_here p none) k low ∙ before.same p none k low;
      keeps = λ p none. keeps_then (held_of t) (held_of s) (held_of u) p (before.keeps p none) (record { owned = replaced_owned s.pages n page put.kept row p (none_here p none); dirty = refl });
      dirty = before.dirty;
    }

pub put_all : (t s : PageTable) (source : Memory) (each : List ℕ) → IsPutting t source each s [] → IsTakenOver (memory_of t.pages) source each (memory_of s.pages)
put_all t s source each put = record {
  permission = put.permission;
  taken = subst (All (SamePage (memory_of s.pages) source)) put.split put.taken;
  other = put.same;
}

pub put_marks : (t s : PageTable) (source : Memory) (each : List ℕ) → IsPutting t source each s [] → Marks (held_of t) (held_of s)
put_marks t s source each put page below clean =
    let none : All (λ taken. page ≡ taken → ⊥) each = All-weaker (λ p. value_at (held_of s).dirty p ≡ 1) (λ p. page ≡ p → ⊥) (λ p dirty is. absurd (omega (arith, clean, dirty, ap (value_at (held_of s).dirty) is))) each put.dirty in
    (sym (put.keeps page none).dirty ∙ clean, put.same page none)

-- at the end nothing is left
pub put_last : (t s : PageTable) (source : Memory) (each : List ℕ) (puts : List Put) → puts ≡ [] → IsPutting t source each s puts → IsPutting t source each s []
put_last t s source each puts none put = subst (IsPutting t source each s) none put

-- what is so in any case
pub at_success : {T E : Type 0} (r : Result T E) (P : Type 0) → P → OnOk r P
at_success (Ok x) P p = p
at_success (Err e) P p = tt

-- what is so in the loop that puts in all
pub record IsPutTurn (f s : PageTable) (all puts : List Put) : Type 0 where
  pub can : All (CanPut s) puts
  pub put : (t : PageTable) (source : Memory) (each : List ℕ) → IsPutting t source each f all → IsPutting t source each s puts
  pub range : (from to : ℕ) → ReadyRoot from to f.pages → ReadyRoot from to s.pages

pub turn_start : (f : PageTable) (all : List Put) → All (CanPut f) all → IsPutTurn f f all all
turn_start f all can = record { can = can; put = λ t source each putting. putting; range = λ from to ready. ready }

pub turn_step : (f s : PageTable) (all : List Put) (n : TreeRef) (puts rest : List Put) (put : Put) → puts ≡ rest ++ put ∷ [] → IsPutTurn f s all puts
    → IsReplacedRow 1048576 put.page put.kept (root_row s.pages) (root_row n) → ((p : ℕ) → ReplaceableRoot p s.pages → ReplaceableRoot p n) → (IsWhole put.kept → AreWholeRoot s.pages → AreWholeRoot n) → ((from to : ℕ) → ReadyRoot from to s.pages → ReadyRoot from to n)
    → IsPutTurn f (record s { pages = n }) all rest
turn_step f s all n puts rest put is before row stays whole range = record {
  can = All-weaker (CanPut s) (CanPut (record s { pages = n })) (λ other c. record { within = c.within; ready = stays other.page c.ready }) rest (All-pop (CanPut s) puts rest (Some put) is before.can).0;
  put = λ t source each putting. put_step t s source each n puts rest put is (before.put t source each putting) row stays whole;
  range = λ from to ready. range from to (before.range from to ready);
}

-- what is held for a page can be put there
pub can_put : (s : PageTable) (source : Memory) (puts : List Put) → All (IsReadyPut s source) puts → All (CanPut s) puts
can_put s source puts ready = All-weaker (IsReadyPut s source) (CanPut s) (λ put r. record { within = r.within; ready = r.ready }) puts ready

-- ---- with a permission

permitted_at : (m o : Memory) (first count right : ℕ) → ((p : ℕ) → permission_at m p ≡ permission_at o p) → (p : ℕ) → permission_at (with_permissions m first count right) p ≡ permission_at (with_permissions o first count right) p
permitted_at m o first count right same p = elim (cases_lt p first) [
  | inl before ↦ permission_at-with_permissions_out m first count right p (λ le. absurd (omega arith)) ∙ same p ∙ sym (permission_at-with_permissions_out o first count right p (λ le. absurd (omega arith)))
  | inr from ↦ elim (cases_lt p (first + count)) [
    | inl here ↦ permission_at-with_permissions m first count right p from here ∙ sym (permission_at-with_permissions o first count right p from here)
    | inr past ↦ permission_at-with_permissions_out m first count right p (λ le. past) ∙ same p ∙ sym (permission_at-with_permissions_out o first count right p (λ le. past))
  ]
]

-- pages that are taken over, and then a permission
pub taken_permitted : (o source m n : Memory) (each : List ℕ) (first count right : ℕ) → IsTakenOver o source each m → n ≡ with_permissions m first count right → IsTakenOver (with_permissions o first count right) source each n
taken_permitted o source m n each first count right taken is =
    let byte : (a : ℕ) → byte_at n a ≡ byte_at m a = λ a. ap (λ x. byte_at x a) is ∙ byte_at-with_permissions m first count right a in
    record {
      permission = λ p. ap (λ x. permission_at x p) is ∙ permitted_at m o first count right taken.permission p;
      taken = All-weaker (SamePage m source) (SamePage n source) (λ p same k low. byte (4096 * p + k) ∙ same k low) each taken.taken;
      other = λ p none k low. byte (4096 * p + k) ∙ taken.other p none k low ∙ sym (byte_at-with_permissions o first count right (4096 * p + k));
    }
