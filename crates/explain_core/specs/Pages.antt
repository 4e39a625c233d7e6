-- Pages of a memory of which something is shown: the runs of pages with one permission other than 0, and the pages that have changed since a snapshot.
-- Our choice: that pages with permission 0 are not shown, and that runs and pages are named by addresses.
use Rattle.std.specs.Prelude.{ℕ, zero, suc, ◌+◌, ◌-◌, ◌*◌, ◌<◌, ◌≤◌, ◌==◌, ◌&&◌, ◌||◌, Bool, not, List, [], ◌∷◌, map, if◌then◌else◌}
use Rattle.std.specs.List.{filter, range_with_len}
use Rattle.std.specs.Str.{bytes_eq}
use Rattle.memory_model.specs.Memory.{Memory, permission_at}
use Rattle.memory_model.specs.Sizes.{page_size, pages}
use Rattle.report_model.specs.Digest.{page_bytes}
use Rattle.space_mem.specs.Held.{AllZero}
use Rattle.explain_core.specs.declared.pages.Run.{Run}

-- of n pages from one on, what is shown of each that a test picks
unfoldable pub each_page : {X : Type 0} → (ℕ → Bool) → (ℕ → X) → ℕ → ℕ → List X
each_page test shown page n = map shown (filter test (range_with_len page n))

-- ---- permissions

-- a page that begins a run: it has a permission, and there is no page before it, or one with another permission
abbrev pub begins_run : Memory → ℕ → Bool
begins_run m page = not (permission_at m page == 0) && (page == 0 || not (permission_at m (page - 1) == permission_at m page))

-- how many pages with this permission stand in a row, of n pages from one on
unfoldable pub in_a_row : Memory → ℕ → ℕ → ℕ → ℕ
in_a_row m permission page zero = 0
in_a_row m permission page (suc n) = if permission_at m page == permission then suc (in_a_row m permission (page + 1) n) else 0

-- the run that begins with a page: its first and its last address, and the permission of its pages
abbrev pub run_from : Memory → ℕ → Run
run_from m page = record {
  first = page_size * page;
  last = page_size * (page + in_a_row m (permission_at m page) page (pages - page)) - 1;
  permission = permission_at m page;
}

abbrev pub runs_of : Memory → List Run
runs_of m = each_page (begins_run m) (run_from m) 0 pages

-- the pages from one to before another, which have one permission, as a run, where this is not 0
abbrev pub run_between : ℕ → ℕ → ℕ → List Run
run_between permission page end = if permission == 0 then [] else record { first = page_size * page; last = page_size * end - 1; permission = permission } ∷ []

-- ---- changes

-- a page of which some byte is another than the snapshot's
abbrev pub is_changed : Memory → Memory → ℕ → Bool
is_changed m snapshot page = not (bytes_eq (page_bytes m page) (page_bytes snapshot page))

-- the address of the first byte of a page
abbrev pub page_address : ℕ → ℕ
page_address page = page_size * page

-- the first addresses of the pages that have changed
abbrev pub changed_pages : Memory → Memory → List ℕ
changed_pages m snapshot = each_page (is_changed m snapshot) page_address 0 pages

-- a page's first address, where it has changed
abbrev pub change_at : Memory → Memory → ℕ → List ℕ
change_at m snapshot page = if is_changed m snapshot page then page_address page ∷ [] else []

-- the next page of which one of two memories may have a byte other than 0
pub record IsNextKeptIn (m n : Memory) (from page : ℕ) : Type 0 where
  pub above : from ≤ page
  pub below : page < pages
  pub zero : AllZero m from page
  pub others : AllZero n from page
