-- Calls that meet children, by what they see of their children and what they edit (OSDI 2010, "Efficient System-Enforced
-- Deterministic Parallelism", the section on the kernel interface: a space meets only its parent and its children).
-- Source: OSDI 2010, "Efficient System-Enforced Deterministic Parallelism", the kernel interface: a space meets only its parent and its children.
use Rattle.std.specs.Prelude.{ℕ, List, [], ◌∷◌, Option, Some, None, option_map}
use Rattle.space_model.specs.declared.Await.{Await}
use Rattle.space_model.specs.declared.Reach.{Reach}
use Rattle.space_model.specs.declared.Reach.TheVariants.{Itself, Whole}
use Rattle.space_model.specs.Space.{Space, space, Children, none, Top, top_of, children_of, find, put_child, remove_child}

-- what is seen of it: its top where it is awaited itself, all of it where it is awaited whole
pub data Seen : Type 0 where
  sees_top : Option Top → Seen
  sees_whole : Option Space → Seen

-- what is done to a child
pub data Edit : Type 0 where
  change : ℕ → Top → Edit
  place : ℕ → Space → Edit
  take_away : ℕ → Edit

-- the caller after a call, and what the call does to its children
pub record Meeting : Type 0 where
  pub caller : Top
  pub edits : List Edit

abbrev pub see : Reach → Option Space → Seen
see Itself o = sees_top (option_map top_of o)
see Whole o = sees_whole o

abbrev pub seen_of : List Await → Children → List Seen
seen_of [] cs = []
seen_of (a ∷ others) cs = see a.reach (find a.number cs) ∷ seen_of others cs

-- all of a child that is seen whole
abbrev pub space_seen : Seen → Option Space
space_seen (sees_top o) = None
space_seen (sees_whole o) = o

-- the first child that is seen, where it is seen whole
abbrev pub first_space : List Seen → Option Space
first_space [] = None
first_space (s ∷ others) = space_seen s

-- and the second
abbrev pub second_space : List Seen → Option Space
second_space [] = None
second_space (s ∷ others) = first_space others

-- the top of the first child that is seen
abbrev pub first_top : List Seen → Option Top
first_top [] = None
first_top (sees_top o ∷ others) = o
first_top (sees_whole o ∷ others) = option_map top_of o

abbrev pub below : Option Space → Children
below None = none
below (Some s) = children_of s

-- a child of this number becomes a copy of a space; the copy of a missing one is none, so the child goes
abbrev pub copy_to : ℕ → Option Space → Edit
copy_to n None = take_away n
copy_to n (Some s) = place n s

abbrev pub edit : Edit → Children → Children
edit (change n t) cs = put_child n (space t (below (find n cs))) cs
edit (place n s) cs = put_child n s cs
edit (take_away n) cs = remove_child n cs

abbrev pub edit_all : List Edit → Children → Children
edit_all [] cs = cs
edit_all (e ∷ es) cs = edit_all es (edit e cs)

abbrev pub apply_meeting : Meeting → Children → Space
apply_meeting m cs = space m.caller (edit_all m.edits cs)
