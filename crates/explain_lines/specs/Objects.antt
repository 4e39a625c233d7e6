-- The lines of a text as JSON (RFC 8259): an array with an object for each line.
-- Source: RFC 8259, "The JavaScript Object Notation (JSON) Data Interchange Format", sections 4, 5 and 7, by the kit's crate `json`.
-- Our choice: the members' names; that a line's first word ends at its first space; that each byte stands for the character of its number, so that any bytes have a JSON
-- text; and the line feed behind the array.
use Rattle.std.specs.Prelude.{ℕ, List, [], ◌∷◌, ◌++◌, codes}
use Rattle.std.specs.List.{after_first, before_first}
use Rattle.std.specs.Str.{encode_utf8_all}
use Rattle.json.specs.Json.{Json, string, array, object, Items, no_items, item, no_members, member}
use Rattle.json.specs.Print.{print}
use Rattle.json.specs.Tree.{json_tokens}
use Rattle.text_lines.specs.Lines.{lines_of}
use Rattle.explain_lines.specs.Pieces.{is}

-- the word at a line's front
abbrev pub name_of : List ℕ → List ℕ
name_of line = before_first (is 32) line

-- what stands behind the first space, or nothing where there is none
abbrev pub value_of : List ℕ → List ℕ
value_of line = after_first (is 32) line

-- a string of as many characters, each the one of a byte's number
abbrev pub string_of : List ℕ → Json
string_of bytes = string (encode_utf8_all bytes)

abbrev pub line_object : List ℕ → Json
line_object line = object (member (codes "name") (string_of (name_of line)) (member (codes "value") (string_of (value_of line)) no_members))

abbrev pub objects_of : List (List ℕ) → Items
objects_of [] = no_items
objects_of (line ∷ lines) = item (line_object line) (objects_of lines)

-- what a text is as a value of JSON
unfoldable pub json_value : List ℕ → Json
json_value text = array (objects_of (lines_of text))

-- that value, spelled with no space and the shortest escapes
abbrev pub json_text : List ℕ → List ℕ
json_text text = print (json_tokens (json_value text))

abbrev pub json_of : List ℕ → List ℕ
json_of text = json_text text ++ 10 ∷ []
