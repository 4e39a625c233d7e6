-- Words that ask about the program itself, and the text that answers them.
-- Our choice: the words and the texts.
use Rattle.std.specs.Prelude.{ℕ, List, drop, Option, Some, None, ◌++◌, codes, bytes_eq, ◌||◌, if◌then◌else◌, option_and_then}
use Rattle.std.specs.List.{last_or}

-- what `--help` prints
unfoldable pub help_text : List ℕ
help_text =
    codes "usage: explain at [OPTION..] [--bytes ADDRESS:COUNT] IMAGE SCRIPT PATH[:EVENT]\n"
    ++ (codes "       explain trace [OPTION..] IMAGE SCRIPT PATH FROM TO\n"
    ++ (codes "       explain why [OPTION..] IMAGE SCRIPT\n"
    ++ (codes "\n"
    ++ (codes "  at       a space right after one of its events, or at its end\n"
    ++ (codes "  trace    a line for each event of a space, from one number to another\n"
    ++ (codes "  why      why spaces stopped or conflict, and who changed what\n"
    ++ (codes "\n"
    ++ (codes "  --limit N        events that each space may take (1000000)\n"
    ++ (codes "  --source FILE    names addresses by a source of det asm, or by an executable\n"
    ++ (codes "  --json           writes the lines as JSON\n"
    ++ (codes "  -h, --help       prints this text\n"
    ++ codes "  --version        prints the version\n")))))))))))

-- what `--version` prints
abbrev pub version_text : List ℕ
version_text = codes "explain 0.1.0\n"

-- the text that a word asks for, if it asks for one
unfoldable pub text_for : List ℕ → Option (List ℕ)
text_for word = if bytes_eq word (codes "-h") || bytes_eq word (codes "--help") then Some help_text
    else if bytes_eq word (codes "--version") then Some version_text
    else None

-- the text that the last of the words asks for; the program's name, which is the first, asks for none
unfoldable pub text_asked : List (List ℕ) → Option (List ℕ)
text_asked words = option_and_then text_for (last_or None (drop 1 words))
