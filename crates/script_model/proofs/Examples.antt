-- Worked examples: scripts, and lines one by one.
use Rattle.std.proofs.Common.{◌≡◌, [], ◌∷◌, ◌++◌, Ok, Err, refl}
use Rattle.std.specs.Prelude.{Some, None, codes}
use Rattle.text_lines.specs.Lines.{lines_with_returns, lines_of}
use Rattle.script_model.specs.Script.{Nothing, Input, Clock, Random}
use Rattle.text_lines.specs.Reading.{number_of, items_of}
use Rattle.script_model.specs.Reading.{after, bytes_of, item_of, script_of}

-- text and bytes come to the input in the order of their lines
pub in_order : script_of (codes "in hi\nraw 00fF\nclock 5\n") ≡ Ok (record { input = codes "hi\n" ++ 0 ∷ 255 ∷ []; clocks = 5 ∷ []; numbers = []; console = [] })
unfolding script_of items_of item_of after bytes_of number_of lines_with_returns
in_order = refl

-- the last line may lack its line feed, and a line may end in a carriage return
pub other_ends : script_of (codes "rand 7\r\n\r\n# a comment\r\nin\r\nrand 8\r") ≡ Ok (record { input = 10 ∷ []; clocks = []; numbers = 7 ∷ 8 ∷ []; console = [] })
unfolding script_of items_of item_of after number_of lines_with_returns
other_ends = refl

-- the first line that is refused is named
pub fourth_line : script_of (codes "in hi\nraw 00ff\nclock 5\nbad\nworse") ≡ Err (record { line = 4 })
unfolding script_of items_of item_of after bytes_of number_of lines_with_returns
fourth_line = refl

-- one carriage return is dropped, the one before it stays
pub one_return : lines_of (codes "a\r\r\nb\r") ≡ codes "a\r" ∷ codes "b" ∷ []
unfolding lines_with_returns
one_return = refl

pub no_lines : lines_of [] ≡ []
unfolding lines_with_returns
no_lines = refl

pub one_empty_line : lines_of (codes "\n") ≡ [] ∷ []
unfolding lines_with_returns
one_empty_line = refl

-- `in` alone and with one space both give a line feed
pub in_alone : item_of (codes "in") ≡ Some (Input (10 ∷ []))
unfolding item_of after
in_alone = refl

pub in_space : item_of (codes "in ") ≡ Some (Input (10 ∷ []))
unfolding item_of after
in_space = refl

-- a second space is text
pub in_spaces : item_of (codes "in  x") ≡ Some (Input (codes " x\n"))
unfolding item_of after
in_spaces = refl

pub most : item_of (codes "clock 4294967295") ≡ Some (Clock 4294967295)
unfolding item_of after number_of
most = refl

pub one_more : item_of (codes "clock 4294967296") ≡ None
unfolding item_of after number_of
one_more = refl

-- zeros at the front count among the ten digits
pub ten_digits : item_of (codes "rand 0000000042") ≡ Some (Random 42)
unfolding item_of after number_of
ten_digits = refl

pub eleven_digits : item_of (codes "rand 00000000042") ≡ None
unfolding item_of after number_of
eleven_digits = refl

pub no_digits : item_of (codes "rand ") ≡ None
unfolding item_of after number_of
no_digits = refl

pub no_sign : item_of (codes "clock +5") ≡ None
unfolding item_of after number_of
no_sign = refl

-- digits come in pairs, and there is one pair at least
pub odd : item_of (codes "raw 00f") ≡ None
unfolding item_of after bytes_of
odd = refl

pub no_pairs : item_of (codes "raw ") ≡ None
unfolding item_of after bytes_of
no_pairs = refl

pub no_digit : item_of (codes "raw 0g") ≡ None
unfolding item_of after bytes_of
no_digit = refl

-- `#` stands first in its line, and a space follows a word
pub blank_first : item_of (codes " # no") ≡ None
unfolding item_of after
blank_first = refl

pub no_space : item_of (codes "inn") ≡ None
unfolding item_of after
no_space = refl

pub nothing : item_of (codes "#") ≡ Some Nothing
unfolding item_of after
nothing = refl
