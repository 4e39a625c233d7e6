-- What a parse says of the line, and the ranges of its numbers.
use Rattle.std.proofs.Common.{◌≡◌, ◌≤◌, ◌⊎◌, ◌∙◌, ℕ, ap, subst, Bool, true, false, refl, sym, inl, inr, List, [], ◌∷◌, length, Option, Some, None, cond, codes, option_map, arith}
use Rattle.std.proofs.lemmas.Bool.{ne_eqb}
use Rattle.std.specs.Prelude.{Result, Ok, Err, IfOk, IfSome, MatchResult, option_and_then, nat_lt}
use Rattle.std.specs.List.{after_first, before_first, position_or_len}
use Rattle.std.specs.Str.{bytes_eq}
use Rattle.clap.specs.Words.{FailsBy, HasKind, HasMatchesOf, Kinds, Row, Text, app_of, fault_of, first_of, is_simple, is_simple_and_free, kind_of, one_of, subcommand_rows_of}
use Rattle.clap.specs.Walk.{is_empty}
use Rattle.clap.specs.declared.error.Error.{Error}
use Rattle.clap.specs.declared.error.kind.ErrorKind.TheVariants.{OutOfMemory}
use Rattle.clap.specs.declared.parser.matches.ArgMatches.{ArgMatches}
use Rattle.clap.specs.declared.builder.command.Command.{Command}
use Rattle.clap.proofs.OnLiterals.{clap_on_literals}
use Rattle.text_lines.specs.Reading.{number_of}
use Rattle.text_lines.proofs.Digits.{number_takes}
use Rattle.command_line.specs.Line.{IsApp, fuel_of, greatest_number, has_flag, number_in}
use Rattle.command_line.proofs.Bounds.{number_bounds}
use Rattle.explain_words.specs.declared.command.Bytes.{Bytes}
use Rattle.explain_words.specs.declared.command.Command as code
use Rattle.explain_words.specs.Line as words
use Rattle.explain_words.specs.Line.{IsCounted, IsInRange, Moment, Question, address_in, at_app, at_end, at_from, at_in, at_with, behind_event, bytes_in, bytes_of, bytes_with, command_line, command_with, count_in, event_in, from_one, greatest_event, is_colon, line, line_of, line_with, moment_in, most_bytes, most_digits, most_digits_of_bytes, path_in, program_app, question_named, run_app, trace_app, trace_from, trace_in, trace_with, why}

pub is_simple_app : is_simple_and_free program_app ≡ true
unfolding clap_on_literals program_app run_app at_app trace_app
is_simple_app = refl

is_simple_program : is_simple program_app ≡ true
unfolding clap_on_literals program_app run_app at_app trace_app
is_simple_program = refl

taken : (k : Kinds) (o : Option words.Command) → k ≡ [] → cond (is_empty k) o None ≡ o
taken k o none = rw none refl

refused : (k : Kinds) (o : Option words.Command) (e : Error) → HasKind k e → (kind_of e ≡ OutOfMemory) ⊎ (cond (is_empty k) o None ≡ None)
refused [] o e h = elim h [ inl m ↦ inl m | inr none ↦ absurd none ]
refused (k ∷ ks) o e h =
    let some : is_empty (k ∷ ks) ≡ false = ne_eqb _ _ (λ z. omega arith) in
    inr (ap (λ b. cond b o None) some)

-- a parse is the line's, and an error that is not for memory says that there is none
abbrev pub ParsesLine : List Text → Result ArgMatches Error → Type 0
ParsesLine ws r = MatchResult r (λ m. line ws ≡ option_and_then command_line (subcommand_rows_of m))
    (λ e. (kind_of e ≡ OutOfMemory) ⊎ (line ws ≡ None))

pub parses_line : (cmd : Command) (ws : List Text) (r : Result ArgMatches Error) → IsApp cmd program_app
    → (is_simple_and_free (app_of cmd) ≡ true → FailsBy (fault_of (app_of cmd) ws) r)
    → IfOk r (HasMatchesOf (app_of cmd) ws) → ParsesLine ws r
unfolding line
parses_line cmd ws r is kinds matches =
    go r (subst (λ a. FailsBy (fault_of a ws) r) is.0 (kinds (ap is_simple_and_free is.0 ∙ is_simple_app)))
    (subst (λ a. IfOk r (HasMatchesOf a ws)) is.0 matches)
  where
    go : (r : Result ArgMatches Error) → FailsBy (fault_of program_app ws) r → IfOk r (HasMatchesOf program_app ws) → ParsesLine ws r
    go (Ok m) none h = taken (fault_of program_app ws) _ none ∙ ap (option_and_then command_line) (sym (h is_simple_program).1)
    go (Err e) k h = refused (fault_of program_app ws) _ e k

-- ---- ranges

weaker : {A : Type 0} {P Q : A → Type 0} (o : Option A) → ((x : A) → P x → Q x) → IfSome o P → IfSome o Q
weaker None f h = tt
weaker (Some x) f h = f x h

one_of_two : {A : Type 0} (P : A → Type 0) (b : Bool) (o p : Option A) → IfSome o P → IfSome p P → IfSome (cond b o p) P
one_of_two P true o p h g = h
one_of_two P false o p h g = g

-- a number from 1 to a bound
abbrev IsUpTo : ℕ → ℕ → Type 0
IsUpTo bound n = (1 ≤ n) × (n ≤ bound)

one_on : (bound n : ℕ) → n ≤ bound → IfSome (from_one n) (IsUpTo bound)
one_on bound n small = go (nat_lt 0 n) refl
  where
    go : (b : Bool) → nat_lt 0 n ≡ b → IfSome (cond b (Some n) None) (IsUpTo bound)
    go true is = (grind (arith, is), small)
    go false is = tt

counted : (most bound : ℕ) (digits : Text) → IfSome (option_and_then from_one (number_of most bound digits)) (IsUpTo bound)
counted most bound digits = go (number_of most bound digits) refl
  where
    go : (o : Option ℕ) → number_of most bound digits ≡ o → IfSome (option_and_then from_one o) (IsUpTo bound)
    go None e = tt
    go (Some n) e = one_on bound n (number_takes most bound digits n e).small

event_from_one : (digits : Text) → IfSome (event_in digits) (λ k. 1 ≤ k)
event_from_one digits = weaker (event_in digits) (λ k h. h.0) (counted most_digits greatest_event digits)

-- an event that is named is counted from 1
abbrev FromOne : Moment → Type 0
FromOne m = IfSome m.event (λ k. 1 ≤ k)

behind_from_one : (path : Option (List ℕ)) (event : Option ℕ) → IfSome event (λ k. 1 ≤ k) → IfSome (behind_event path event) FromOne
behind_from_one (Some p) (Some k) h = h
behind_from_one (Some p) None h = tt
behind_from_one None event h = tt

end_from_one : (path : Option (List ℕ)) → IfSome (at_end path) FromOne
end_from_one None = tt
end_from_one (Some p) = tt

moment_from_one : (text : Text) → IfSome (moment_in text) FromOne
unfolding moment_in
moment_from_one text =
    one_of_two FromOne (nat_lt (position_or_len is_colon text) (length text)) _ (at_end (path_in text))
    (behind_from_one (path_in (before_first is_colon text)) (event_in (after_first is_colon text)) (event_from_one (after_first is_colon text))) (end_from_one (path_in text))

abbrev IsFew : Bytes → Type 0
IsFew b = IsUpTo most_bytes b.count

few_with : (address count : Option ℕ) → IfSome count (IsUpTo most_bytes) → IfSome (bytes_with address count) IsFew
few_with (Some a) (Some n) h = h
few_with (Some a) None h = tt
few_with None n h = tt

few_in : (text : Text) → IfSome (bytes_in text) IsFew
unfolding bytes_in
few_in text =
    one_of_two IsFew (nat_lt (position_or_len is_colon text) (length text)) _ None
    (few_with (address_in (before_first is_colon text)) (count_in (after_first is_colon text)) (counted most_digits_of_bytes most_bytes (after_first is_colon text))) tt

some_few : (o : Option Bytes) → IfSome o IsFew → IfSome (option_map (λ (b : Bytes). Some b) o) (λ b. IfSome b IsFew)
some_few None h = tt
some_few (Some b) h = h

few_of : (text : Option Text) → IfSome (bytes_of text) (λ b. IfSome b IsFew)
few_of None = tt
few_of (Some t) = some_few (bytes_in t) (few_in t)

at_counted : (moment : Option Moment) (bytes : Option (Option Bytes)) → IfSome moment FromOne → IfSome bytes (λ b. IfSome b IsFew) → IfSome (at_with moment bytes) IsCounted
at_counted (Some m) (Some b) h g = (h, g)
at_counted (Some m) None h g = tt
at_counted None b h g = tt

trace_counted : (path : Option (List ℕ)) (from to : Option ℕ) → IfSome from (λ k. 1 ≤ k) → IfSome to (λ k. 1 ≤ k) → IfSome (trace_with path from to) IsCounted
trace_counted (Some p) (Some a) (Some b) h g = (h, g)
trace_counted (Some p) (Some a) None h g = tt
trace_counted (Some p) None b h g = tt
trace_counted None a b h g = tt

at_in_range : (moment bytes : Option Text) → IfSome (at_in moment bytes) IsCounted
at_in_range None bytes = tt
at_in_range (Some m) bytes = at_counted (moment_in m) (bytes_of bytes) (moment_from_one m) (few_of bytes)

trace_in_range : (path from to : Option Text) → IfSome (trace_in path from to) IsCounted
trace_in_range (Some p) (Some a) (Some b) = trace_counted (path_in p) (event_in a) (event_in b) (event_from_one a) (event_from_one b)
trace_in_range (Some p) (Some a) None = tt
trace_in_range (Some p) None b = tt
trace_in_range None a b = tt

named_counted : (p : Text × List Row) → IfSome (question_named p) IsCounted
named_counted p =
    one_of_two IsCounted (bytes_eq p.0 (codes "at")) (at_from p.1) _ (at_in_range (first_of (codes "moment") p.1) (first_of (codes "bytes") p.1))
    (one_of_two IsCounted (bytes_eq p.0 (codes "trace")) (trace_from p.1) _ (trace_in_range (first_of (codes "path") p.1) (first_of (codes "from") p.1) (first_of (codes "to") p.1))
    (one_of_two IsCounted (bytes_eq p.0 (codes "why")) (Some why) None tt tt))

fuel_bounds : (o : Option Text) (n : ℕ) → option_and_then (number_in 1 greatest_number) o ≡ Some n → (1 ≤ n) × (n ≤ greatest_number)
fuel_bounds None n is = absurd cc
fuel_bounds (Some t) n is = number_bounds 1 greatest_number t n is

with_in_range : (json : Bool) (source : Option Text) (fuel : Option ℕ) (image script : Option Text) (question : Option Question) → ((n : ℕ) → fuel ≡ Some n → (1 ≤ n) × (n ≤ greatest_number)) → IfSome question IsCounted
    → IfSome (command_with json source fuel image script question) IsInRange
with_in_range json source (Some n) (Some i) (Some s) (Some q) h g =
    let b = h n refl in
    (b.0, omega (arith, b.1), g)
with_in_range json source (Some n) (Some i) (Some s) None h g = tt
with_in_range json source (Some n) (Some i) None q h g = tt
with_in_range json source (Some n) None s q h g = tt
with_in_range json source None i s q h g = tt

line_in_range : (question : Option Question) (rows : List Row) → IfSome question IsCounted → IfSome (line_with question rows) IsInRange
unfolding line_with
line_in_range question rows are =
    with_in_range (has_flag (codes "json") rows) (first_of (codes "source") rows) (fuel_of rows) (first_of (codes "image") rows) (first_of (codes "script") rows) question (fuel_bounds (one_of (codes "limit") rows)) are

rows_in_range : (o : Option (Text × List Row)) → IfSome (option_and_then command_line o) IsInRange
rows_in_range None = tt
rows_in_range (Some p) = line_in_range (question_named p) p.1 (named_counted p)

of_command : (c : Option code.Command) → IfSome (option_map line_of c) IsInRange → IfSome c (λ x. IsInRange (line_of x))
of_command None h = h
of_command (Some c) h = h

pub command_in_range : (o : Option (Text × List Row)) (c : Option code.Command) → option_map line_of c ≡ option_and_then command_line o → IfSome c (λ x. IsInRange (line_of x))
command_in_range o c e = of_command c (subst (λ (p : Option words.Command). IfSome p IsInRange) (sym e) (rows_in_range o))
