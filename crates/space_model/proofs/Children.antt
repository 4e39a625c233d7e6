-- Children by their numbers: how looking up, changing, entering and removing pass one another.
use Rattle.std.proofs.Common.{◌≡◌, ℕ, ◌≢◌, Bool, true, false, Option, Some, None, refl, arith, ◌∙◌}
use Rattle.std.proofs.lemmas.Bool.Decides.{nat_tests}
use Rattle.std.specs.Prelude.{option_map}
use Rattle.space_model.specs.Space.{Space, Children, none, child, find, over, has, enter, put_child, remove_child}

pub find-over_other : (n m : ℕ) (f : Space → Space) (cs : Children) → n ≢ m → find n (over m f cs) ≡ find n cs
find-over_other n m f none ne = refl
find-over_other n m f (child k c rest) ne = grind (arith, nat_tests, find-over_other n m f rest ne)

pub find-over_same : (n : ℕ) (f : Space → Space) (cs : Children) → find n (over n f cs) ≡ option_map f (find n cs)
find-over_same n f none = refl
find-over_same n f (child k c rest) = grind (arith, nat_tests, find-over_same n f rest)

pub find-over : (n : ℕ) (f : Space → Space) (c : Space) (cs : Children) → find n cs ≡ Some c → find n (over n f cs) ≡ Some (f c)
find-over n f c cs is = rw (find-over_same n f cs, is) refl

pub over-over_other : (n m : ℕ) (f g : Space → Space) (cs : Children) → n ≢ m → over n f (over m g cs) ≡ over m g (over n f cs)
over-over_other n m f g none ne = refl
over-over_other n m f g (child k c rest) ne = grind (arith, nat_tests, over-over_other n m f g rest ne)

pub over-over_same : (n : ℕ) (f g : Space → Space) (cs : Children) → over n f (over n g cs) ≡ over n (λ c. f (g c)) cs
over-over_same n f g none = refl
over-over_same n f g (child k c rest) = grind (arith, nat_tests, over-over_same n f g rest)

-- only what f does to the child that is there counts
pub over-at : (n : ℕ) (f g : Space → Space) (c : Space) (cs : Children) → find n cs ≡ Some c → f c ≡ g c → over n f cs ≡ over n g cs
over-at n f g c none is e = cc
over-at n f g c (child k d rest) is e = grind (arith, nat_tests, over-at n f g c rest)

pub over_none : (n : ℕ) (f : Space → Space) (cs : Children) → has n cs ≡ false → over n f cs ≡ cs
over_none n f none un = refl
over_none n f (child k c rest) un = grind (arith, nat_tests, over_none n f rest)

pub over_missing : (n : ℕ) (f : Space → Space) (cs : Children) → find n cs ≡ None → over n f cs ≡ cs
over_missing n f none un = refl
over_missing n f (child k c rest) un = grind (arith, nat_tests, over_missing n f rest)

-- a child that becomes itself
pub over_itself : (n : ℕ) (c : Space) (cs : Children) → find n cs ≡ Some c → over n (λ d. c) cs ≡ cs
over_itself n c none is = cc
over_itself n c (child k d rest) is = grind (arith, nat_tests, over_itself n c rest)

pub has-over : (n m : ℕ) (f : Space → Space) (cs : Children) → has n (over m f cs) ≡ has n cs
has-over n m f none = refl
has-over n m f (child k c rest) = grind (arith, nat_tests, has-over n m f rest)

pub has-find : (n : ℕ) (c : Space) (cs : Children) → find n cs ≡ Some c → has n cs ≡ true
has-find n c none is = cc
has-find n c (child k d rest) is = grind (arith, nat_tests, has-find n c rest)

pub has_missing : (n : ℕ) (cs : Children) → find n cs ≡ None → has n cs ≡ false
has_missing n none is = refl
has_missing n (child k d rest) is = grind (arith, nat_tests, has_missing n rest)

pub find_none : (n : ℕ) (cs : Children) → has n cs ≡ false → find n cs ≡ None
find_none n none is = refl
find_none n (child k d rest) is = grind (arith, nat_tests, find_none n rest)

pub over-enter_other : (n m : ℕ) (f : Space → Space) (s : Space) (cs : Children) → n ≢ m → over n f (enter m s cs) ≡ enter m s (over n f cs)
over-enter_other n m f s none ne = grind (arith, nat_tests)
over-enter_other n m f s (child k c rest) ne = grind (arith, nat_tests, over-enter_other n m f s rest ne)

pub over-enter_none : (n : ℕ) (f : Space → Space) (s : Space) (cs : Children) → has n cs ≡ false → over n f (enter n s cs) ≡ enter n (f s) cs
over-enter_none n f s none un = grind (arith, nat_tests)
over-enter_none n f s (child k c rest) un = grind (arith, nat_tests, over-enter_none n f s rest)

pub find-enter_other : (n m : ℕ) (s : Space) (cs : Children) → n ≢ m → find n (enter m s cs) ≡ find n cs
find-enter_other n m s none ne = grind (arith, nat_tests)
find-enter_other n m s (child k c rest) ne = grind (arith, nat_tests, find-enter_other n m s rest ne)

pub find-enter_same : (n : ℕ) (s : Space) (cs : Children) → has n cs ≡ false → find n (enter n s cs) ≡ Some s
find-enter_same n s none un = grind (arith, nat_tests)
find-enter_same n s (child k c rest) un = grind (arith, nat_tests, find-enter_same n s rest)

pub find-put_same : (n : ℕ) (s : Space) (cs : Children) → find n (put_child n s cs) ≡ Some s
find-put_same n s cs = go (has n cs) (find n cs) refl refl
  where
    go : (b : Bool) (o : Option Space) → has n cs ≡ b → find n cs ≡ o → find n (put_child n s cs) ≡ Some s
    go false o is at = rw is (find-enter_same n s cs is)
    go true (Some c) is at = rw is (find-over n (λ d. s) c cs at)
    go true None is at = let un = has_missing n cs at in cc

pub find-put_other : (n m : ℕ) (s : Space) (cs : Children) → n ≢ m → find n (put_child m s cs) ≡ find n cs
find-put_other n m s cs ne = go (has m cs) refl
  where
    go : (b : Bool) → has m cs ≡ b → find n (put_child m s cs) ≡ find n cs
    go true is = rw is (find-over_other n m (λ c. s) cs ne)
    go false is = rw is (find-enter_other n m s cs ne)

pub put-over_same : (n : ℕ) (f : Space → Space) (s : Space) (cs : Children) → put_child n s (over n f cs) ≡ put_child n s cs
put-over_same n f s cs = go (has n cs) refl
  where
    go : (b : Bool) → has n cs ≡ b → put_child n s (over n f cs) ≡ put_child n s cs
    go true is = rw (has-over n n f cs, is) (over-over_same n (λ c. s) f cs)
    go false is = rw (over_none n f cs is) refl

pub over-put_same : (n : ℕ) (f : Space → Space) (s : Space) (cs : Children) → over n f (put_child n s cs) ≡ put_child n (f s) cs
over-put_same n f s cs = go (has n cs) refl
  where
    go : (b : Bool) → has n cs ≡ b → over n f (put_child n s cs) ≡ put_child n (f s) cs
    go true is = rw is (over-over_same n f (λ c. s) cs)
    go false is = rw is (over-enter_none n f s cs is)

pub over-put_other : (n m : ℕ) (f : Space → Space) (s : Space) (cs : Children) → n ≢ m → over n f (put_child m s cs) ≡ put_child m s (over n f cs)
over-put_other n m f s cs ne = go (has m cs) refl
  where
    go : (b : Bool) → has m cs ≡ b → over n f (put_child m s cs) ≡ put_child m s (over n f cs)
    go true is = rw (has-over m n f cs, is) (over-over_other n m f (λ c. s) cs ne)
    go false is = rw (has-over m n f cs, is) (over-enter_other n m f s cs ne)

-- where a child is there, a new one in its place is the change of it
pub put_child-over : (n : ℕ) (s : Space) (cs : Children) → has n cs ≡ true → put_child n s cs ≡ over n (λ c. s) cs
put_child-over n s cs is = rw is refl

-- what is put where the same child stands changes nothing
pub put_itself : (n : ℕ) (c : Space) (cs : Children) → find n cs ≡ Some c → put_child n c cs ≡ cs
put_itself n c cs is = put_child-over n c cs (has-find n c cs is) ∙ over_itself n c cs is

pub over-remove_other : (n m : ℕ) (f : Space → Space) (cs : Children) → n ≢ m → over n f (remove_child m cs) ≡ remove_child m (over n f cs)
over-remove_other n m f none ne = refl
over-remove_other n m f (child k c rest) ne = grind (arith, nat_tests, over-remove_other n m f rest ne)

pub remove-over_same : (n : ℕ) (f : Space → Space) (cs : Children) → remove_child n (over n f cs) ≡ remove_child n cs
remove-over_same n f none = refl
remove-over_same n f (child k c rest) = grind (arith, nat_tests, remove-over_same n f rest)

pub find-remove_other : (n m : ℕ) (cs : Children) → n ≢ m → find n (remove_child m cs) ≡ find n cs
find-remove_other n m none ne = refl
find-remove_other n m (child k c rest) ne = grind (arith, nat_tests, find-remove_other n m rest ne)
