-- Worked examples: schedules, and lines one by one.
use Rattle.std.proofs.Common.{◌≡◌, [], ◌∷◌, Ok, Err, refl}
use Rattle.std.specs.Prelude.{Some, None, codes}
use Rattle.text_lines.specs.Lines.{lines_with_returns}
use Rattle.schedule_model.specs.Schedule.{Nothing, Next}
use Rattle.text_lines.specs.Reading.{number_of, items_of}
use Rattle.schedule_model.specs.Reading.{numbers_of, path_of, item_of, schedule_of}

-- paths come in the order of their lines
pub in_order : schedule_of (codes "/\n/9\n/0\n/\n/3/4\n") ≡ Ok ([] ∷ (9 ∷ []) ∷ (0 ∷ []) ∷ [] ∷ (3 ∷ 4 ∷ []) ∷ [])
unfolding schedule_of items_of item_of path_of numbers_of number_of lines_with_returns
in_order = refl

-- empty lines and comments say nothing, a line may end in a carriage return, and the last may lack its line feed
pub other_ends : schedule_of (codes "\r\n# first\n\n/1\r\n/2") ≡ Ok ((1 ∷ []) ∷ (2 ∷ []) ∷ [])
unfolding schedule_of items_of item_of path_of numbers_of number_of lines_with_returns
other_ends = refl

pub no_lines : schedule_of [] ≡ Ok []
unfolding schedule_of items_of lines_with_returns
no_lines = refl

-- the first line that is refused is named
pub third_line : schedule_of (codes "/\n\n/1/x\nworse") ≡ Err (record { line = 3 })
unfolding schedule_of items_of item_of path_of numbers_of number_of lines_with_returns
third_line = refl

-- zeros at the front count among the five digits
pub five_digits : item_of (codes "/00042") ≡ Some (Next (42 ∷ []))
unfolding item_of path_of numbers_of number_of
five_digits = refl

pub six_digits : item_of (codes "/000042") ≡ None
unfolding item_of path_of numbers_of number_of
six_digits = refl

pub greatest : item_of (codes "/65535") ≡ Some (Next (65535 ∷ []))
unfolding item_of path_of numbers_of number_of
greatest = refl

pub one_more : item_of (codes "/65536") ≡ None
unfolding item_of path_of numbers_of number_of
one_more = refl

pub eight_parts : item_of (codes "/1/2/3/4/5/6/7/8") ≡ Some (Next (1 ∷ 2 ∷ 3 ∷ 4 ∷ 5 ∷ 6 ∷ 7 ∷ 8 ∷ []))
unfolding item_of path_of numbers_of number_of
eight_parts = refl

pub nine_parts : item_of (codes "/1/2/3/4/5/6/7/8/9") ≡ None
unfolding item_of path_of numbers_of number_of
nine_parts = refl

-- each part has a number
pub no_digits : item_of (codes "/1/") ≡ None
unfolding item_of path_of numbers_of number_of
no_digits = refl

pub two_slashes : item_of (codes "//") ≡ None
unfolding item_of path_of numbers_of number_of
two_slashes = refl

-- `/` stands first in its line, and nothing behind the numbers
pub no_slash : item_of (codes "1/2") ≡ None
unfolding item_of
no_slash = refl

pub blank_behind : item_of (codes "/ ") ≡ None
unfolding item_of path_of numbers_of number_of
blank_behind = refl

pub nothing : item_of (codes "#/1") ≡ Some Nothing
unfolding item_of
nothing = refl
