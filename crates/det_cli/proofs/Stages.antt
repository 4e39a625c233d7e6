-- What is answered at each stage of reading a command's files is what the files decide.
use Rattle.std.proofs.Common.{◌≡◌, ◌≤◌, ◌<◌, ◌+◌, ◌⊎◌, ℕ, zero, suc, List, [], ◌∷◌, ◌++◌, length, take, replicate, Option, Some, None, IfSome, IfOk, Result, Ok, Err, Bool, true, false, cond, nat_lt, inl, inr, refl, sym, ap, ◌∙◌, subst, append_assoc, lit≤, lit<, arith}
use Rattle.std.proofs.lemmas.List.{append-nil}
use Rattle.std.specs.Prelude.{IsErrAnd}
use Rattle.det_host.specs.Outside.{Request, Rose}
use Rattle.det_cli.specs.declared.end.End.{End}
use Rattle.det_cli.specs.declared.end.End.TheVariants.{Ret, Trapped, TooLarge, ReadFault, NoMemory}
use Rattle.det_cli.specs.Status.{IsDone, IsBad}
use Rattle.det_cli.specs.Files.{Expectation, Step, Input, Agrees, AsTold, request_of, requests_of, refusal_at, refusal_or, judge}
use Rattle.image_model.specs.Image.{Image}
use Rattle.device_model.specs.Devices.{Devices}
use Rattle.space_model.specs.Space.{Space, top_of}
use Rattle.space_model.specs.Stop.{has_returned}
use Rattle.command_line.specs.Line.{Engine}
use Rattle.det_cli.specs.Commands.{engine_steps, expectation_of_root, expectation_of_run, run_shows}
use Rattle.det_cli.specs.Stages.{IsAsked, LoadFault, LoadsFile, GivesRefusal, GivesExpectation, Reads, ReadsFile}

take_none : (j : ℕ) → take {A = List ℕ} j [] ≡ []
take_none zero = refl
take_none (suc j) = refl

pub none_told : (ss : List Step) (told : List ℕ → Option (List ℕ)) → AsTold ss told []
none_told [] told = tt
none_told (s ∷ ss) told = tt

-- where memory ran out the loader may not know what it was asked for
asks : (old new : List Request) (r : Request) (rs : List Request) → (new ≡ old) ⊎ (new ≡ old ++ r ∷ []) → (k : ℕ) × ((k ≤ 1) × (new ≡ old ++ take k (r ∷ rs)))
asks old new r rs (inl e) = (0, (lit≤ tt, e ∙ sym (append-nil old)))
asks old new r rs (inr e) = (1, (lit≤ tt, e))

-- before the first file is read nothing is decided
pub open_at_start : (s : Step) (ss : List Step) (whole : List (List ℕ) → Option Expectation) (j : ℕ) → judge (s ∷ ss) whole (take j []) ≡ None
open_at_start s ss whole j = ap (λ (fs : List (List ℕ)). judge (s ∷ ss) whole fs) (take_none j)

open_at_first : (s : Step) (ss : List Step) (whole : List (List ℕ) → Option Expectation) (fs : List (List ℕ)) (k j : ℕ) → k ≤ 1 → j < k → judge (s ∷ ss) whole (take j fs) ≡ None
open_at_first s ss whole fs k zero le lt = refl
open_at_first s ss whole fs k (suc j) le lt = absurd (omega (arith, le, lt))

not_read : {V : Type 0} (shows : V → Expectation) (s : Step) (ss : List Step) (whole : List (List ℕ) → Option Expectation) (i : Input) (f : End)
    → (i.asked_after ≡ i.asked_before) ⊎ IsAsked (request_of s) i → ((f ≡ ReadFault) × Rose i.faults_before i.faults_after) ⊎ (f ≡ NoMemory)
    → Reads shows (s ∷ ss) whole i (Err f)
not_read shows s ss whole i f asked gives =
    let a = asks i.asked_before i.asked_after (request_of s) (requests_of ss) asked in
    record {
      contents = [];
      files = record { as_told = tt; count = a.0; asked = a.1.1; least = omega arith; most = a.1.0; in_order = λ j lt. open_at_start s ss whole j };
      gives = gives;
    }

first_refused : {V : Type 0} (shows : V → Expectation) (s : Step) (ss : List Step) (whole : List (List ℕ) → Option Expectation) (i : Input) (f : End) (bytes : List ℕ)
    → IsAsked (request_of s) i → Agrees (i.told s.name) bytes → refusal_at s bytes ≡ Some f → IsBad f → Reads shows (s ∷ ss) whole i (Err f)
first_refused shows s ss whole i f bytes asked agrees e bad = record {
  contents = bytes ∷ [];
  files = record {
    as_told = (agrees, none_told ss i.told);
    count = 1;
    asked = asked;
    least = lit≤ tt;
    most = lit≤ tt;
    in_order = λ j lt. open_at_first s ss whole (bytes ∷ []) 1 j (lit≤ tt) lt;
  };
  gives = subst (λ (r : Option End). GivesExpectation shows (refusal_or r (judge ss (λ rest. whole (bytes ∷ rest)) [])) i (Err f)) (sym e) (bad, inl refl);
}

within : (s : Step) (bytes : List ℕ) → nat_lt s.room (length bytes) ≡ false → refusal_at s bytes ≡ s.refuse bytes
within s bytes fits = ap (λ (b : Bool). cond b (Some (TooLarge (s.room + 1))) (s.refuse bytes)) fits

above : (s : Step) (bytes : List ℕ) → nat_lt s.room (length bytes) ≡ true → refusal_at s bytes ≡ Some (TooLarge (s.room + 1))
above s bytes large = ap (λ (b : Bool). cond b (Some (TooLarge (s.room + 1))) (s.refuse bytes)) large

-- the first file could not be loaded
load_stopped : {V : Type 0} (shows : V → Expectation) (s : Step) (ss : List Step) (whole : List (List ℕ) → Option Expectation) (i : Input) (f : End)
    → LoadFault (request_of s) i f → Reads shows (s ∷ ss) whole i (Err f)
load_stopped shows s ss whole i f (inl (asked, (e, (bytes, (agrees, large))))) =
    first_refused shows s ss whole i f bytes asked agrees (above s bytes large ∙ ap (λ (x : End). Some x) (sym e)) (subst IsBad (sym e) refl)
load_stopped shows s ss whole i f (inr (inl (asked, fault))) = not_read shows s ss whole i f (inr asked) (inl fault)
load_stopped shows s ss whole i f (inr (inr (asked, memory))) = not_read shows s ss whole i f asked (inr memory)

-- the last file was read: all is
all_read : {V W : Type 0} (items : W → List ℕ) (shows : V → Expectation) (s : Step) (whole : List (List ℕ) → Option Expectation) (i : Input) (v : W) (x : V)
    → LoadsFile items (request_of s) i (Ok v) → s.refuse (items v) ≡ None → whole (items v ∷ []) ≡ Some (shows x) → IsDone (shows x).end → Reads shows (s ∷ []) whole i (Ok x)
all_read items shows s whole i v x loaded kept made done = record {
  contents = items v ∷ [];
  files = record {
    as_told = (loaded.1, tt);
    count = 1;
    asked = loaded.0;
    least = lit≤ tt;
    most = lit≤ tt;
    in_order = λ j lt. open_at_first s [] whole (items v ∷ []) 1 j (lit≤ tt) lt;
  };
  gives = subst (λ (r : Option End). GivesExpectation shows (refusal_or r (whole (items v ∷ []))) i (Ok x)) (sym (within s (items v) loaded.2 ∙ kept))
      (subst (λ (o : Option Expectation). GivesExpectation shows o i (Ok x)) (sym made) (refl, done));
}

same_told : (ss : List Step) (now told : List ℕ → Option (List ℕ)) (contents : List (List ℕ)) → ((name : List ℕ) → now name ≡ told name) → AsTold ss now contents → AsTold ss told contents
same_told [] now told [] same h = tt
same_told [] now told (f ∷ fs) same h = absurd h
same_told (s ∷ ss) now told [] same h = tt
same_told (s ∷ ss) now told (f ∷ fs) same h = (subst (λ (t : Option (List ℕ)). Agrees t f) (same s.name) h.0, same_told ss now told fs same h.1)

rose_earlier : (old mid new : ℕ) → old ≤ mid → Rose mid new → Rose old new
rose_earlier old mid new le h = omega (arith, h)

gives_earlier : {V : Type 0} (shows : V → Expectation) (o : Option Expectation) (i j : Input) (r : Result V End)
    → (Rose j.faults_before j.faults_after → Rose i.faults_before i.faults_after) → GivesExpectation shows o j r → GivesExpectation shows o i r
gives_earlier shows None i j (Ok v) rose h = absurd h
gives_earlier shows None i j (Err f) rose (inl h) = inl (h.0, rose h.1)
gives_earlier shows None i j (Err f) rose (inr h) = inr h
gives_earlier shows (Some e) i j (Ok v) rose h = h
gives_earlier shows (Some e) i j (Err f) rose h = h

open_behind : (s : Step) (ss : List Step) (whole : List (List ℕ) → Option Expectation) (b : List ℕ) (contents : List (List ℕ)) (k : ℕ) → refusal_at s b ≡ None
    → ((j : ℕ) → j < k → judge ss (λ rest. whole (b ∷ rest)) (take j contents) ≡ None) → (j : ℕ) → j < suc k → judge (s ∷ ss) whole (take j (b ∷ contents)) ≡ None
open_behind s ss whole b contents k kept order zero lt = refl
open_behind s ss whole b contents k kept order (suc j) lt =
    ap (λ (r : Option End). refusal_or r (judge ss (λ rest. whole (b ∷ rest)) (take j contents))) kept ∙ order j (omega (arith, lt))

-- the first file was read, and then the others
pub then_read : {V W : Type 0} (items : W → List ℕ) (shows : V → Expectation) (s : Step) (ss : List Step) (whole : List (List ℕ) → Option Expectation)
    (told now : List ℕ → Option (List ℕ)) (a b c : List Request) (x y z : ℕ) (v : W) (r : Result V End)
    → LoadsFile items (request_of s) (record { told = told; asked_before = a; asked_after = b; faults_before = x; faults_after = y }) (Ok v) → s.refuse (items v) ≡ None
    → ((name : List ℕ) → now name ≡ told name) → x ≤ y
    → Reads shows ss (λ rest. whole (items v ∷ rest)) (record { told = now; asked_before = b; asked_after = c; faults_before = y; faults_after = z }) r
    → Reads shows (s ∷ ss) whole (record { told = told; asked_before = a; asked_after = c; faults_before = x; faults_after = z }) r
then_read items shows s ss whole told now a b c x y z v r loaded kept same le h =
    let none : refusal_at s (items v) ≡ None = within s (items v) loaded.2 ∙ kept in
    let k = h.files.count in
    record {
      contents = items v ∷ h.contents;
      files = record {
        as_told = (loaded.1, same_told ss now told h.contents same h.files.as_told);
        count = suc k;
        asked = h.files.asked ∙ ap (λ (l : List Request). l ++ take k (requests_of ss)) loaded.0 ∙ append_assoc a (request_of s ∷ []) (take k (requests_of ss));
        least = omega (arith, h.files.least);
        most = omega (arith, h.files.most);
        in_order = open_behind s ss whole (items v) h.contents k none h.files.in_order;
      };
      gives = subst (λ (d : Option End). GivesExpectation shows (refusal_or d (judge ss (λ rest. whole (items v ∷ rest)) h.contents))
          (record { told = told; asked_before = a; asked_after = c; faults_before = x; faults_after = z }) r) (sym none)
          (gives_earlier shows (judge ss (λ rest. whole (items v ∷ rest)) h.contents) (record { told = told; asked_before = a; asked_after = c; faults_before = x; faults_after = z })
          (record { told = now; asked_before = b; asked_after = c; faults_before = y; faults_after = z }) r (rose_earlier x y z le) h.gives);
    }

-- a file that is too large has bytes, those that are told where they are told
long : (n : ℕ) → length (replicate {A = ℕ} n 0) ≡ n
long zero = refl
long (suc n) = ap suc (long n)

pub too_large : (told : Option (List ℕ)) (room : ℕ) → IfSome told (λ bytes. room < length bytes) → (bytes : List ℕ) × (Agrees told bytes × (nat_lt room (length bytes) ≡ true))
too_large None room h = (replicate (room + 1) 0, (tt, grind (arith, long (room + 1))))
too_large (Some bytes) room h = (bytes, (refl, grind (arith, h)))

done_by : (b : Bool) → IsDone (cond b Ret Trapped)
done_by true = lit< tt
done_by false = lit< tt

pub root_done : (digest : Bool) (x : Space) → IsDone (expectation_of_root digest x).end
root_done digest x = done_by (has_returned (top_of x).status)

-- a file that was loaded was read as its bytes are
pub file_read : {V W : Type 0} (items : W → List ℕ) (reads : List ℕ → V → Type 0) (s : Step) (i : Input) (w : W) (text : List ℕ) (r : Result V End)
    → LoadsFile items (request_of s) i (Ok w) → text ≡ items w → GivesRefusal (s.refuse text) r → IfOk r (reads text) → ReadsFile reads s i r
file_read items reads s i w text (Ok v) loaded same judged ok =
    (loaded.0, (text, (subst (Agrees (i.told s.name)) (sym same) loaded.1, (ap (λ (t : List ℕ). nat_lt s.room (length t)) same ∙ loaded.2, (judged, ok)))))
file_read items reads s i w text (Err f) loaded same (inl h) ok =
    inl (loaded.0, (text, (subst (Agrees (i.told s.name)) (sym same) loaded.1, (ap (λ (t : List ℕ). nat_lt s.room (length t)) same ∙ loaded.2, h))))
file_read items reads s i w text (Err f) loaded same (inr h) ok = inr (inr (inr (inr loaded.0, h)))

-- the first file is refused, or there are no bytes
pub file_stopped : {U V : Type 0} (reads : List ℕ → U → Type 0) (shows : V → Expectation) (s : Step) (ss : List Step) (whole : List (List ℕ) → Option Expectation) (i : Input) (f : End)
    → ReadsFile reads s i (Err f) → Reads shows (s ∷ ss) whole i (Err f)
file_stopped reads shows s ss whole i f (inl (asked, (bytes, (agrees, (fits, (refused, bad)))))) =
    first_refused shows s ss whole i f bytes asked agrees (within s bytes fits ∙ refused) bad
file_stopped reads shows s ss whole i f (inr h) = load_stopped shows s ss whole i f h

-- the last file was read: all is
pub last_read : {U V : Type 0} (reads : List ℕ → U → Type 0) (shows : V → Expectation) (s : Step) (whole : List (List ℕ) → Option Expectation) (i : Input) (u : U) (x : V)
    → ReadsFile reads s i (Ok u) → ((bytes : List ℕ) → reads bytes u → whole (bytes ∷ []) ≡ Some (shows x)) → IsDone (shows x).end → Reads shows (s ∷ []) whole i (Ok x)
last_read reads shows s whole i u x (asked, (bytes, (agrees, (fits, (kept, read))))) made done =
    all_read (λ (b : List ℕ). b) shows s whole i bytes x (asked, agrees, fits) kept (made bytes read) done

-- the first file was read, and then the others
pub then_others : {U V : Type 0} (reads : List ℕ → U → Type 0) (shows : V → Expectation) (s : Step) (ss : List Step) (whole : List (List ℕ) → Option Expectation)
    (told now : List ℕ → Option (List ℕ)) (a b c : List Request) (x y z : ℕ) (u : U) (r : Result V End)
    → ReadsFile reads s (record { told = told; asked_before = a; asked_after = b; faults_before = x; faults_after = y }) (Ok u)
    → ((name : List ℕ) → now name ≡ told name) → x ≤ y
    → ((bytes : List ℕ) → reads bytes u → Reads shows ss (λ rest. whole (bytes ∷ rest)) (record { told = now; asked_before = b; asked_after = c; faults_before = y; faults_after = z }) r)
    → Reads shows (s ∷ ss) whole (record { told = told; asked_before = a; asked_after = c; faults_before = x; faults_after = z }) r
then_others reads shows s ss whole told now a b c x y z u r (asked, (bytes, (agrees, (fits, (kept, read))))) same le h =
    then_read (λ (t : List ℕ). t) shows s ss whole told now a b c x y z bytes r (asked, agrees, fits) kept same le (h bytes read)

-- the same is shown by another value, and an end is the same for all
other_value : {U V : Type 0} (e : Expectation) (shows : V → Expectation) (o : Option Expectation) (i : Input) (u : U) (x : V) → e ≡ shows x
    → GivesExpectation (λ (y : U). e) o i (Ok u) → GivesExpectation shows o i (Ok x)
other_value e shows None i u x same h = absurd h
other_value e shows (Some d) i u x same h = (h.0 ∙ same, h.1)

pub shown_by : {U V : Type 0} (e : Expectation) (shows : V → Expectation) (ss : List Step) (whole : List (List ℕ) → Option Expectation) (i : Input) (u : U) (x : V) → e ≡ shows x
    → Reads (λ (y : U). e) ss whole i (Ok u) → Reads shows ss whole i (Ok x)
shown_by e shows ss whole i u x same h = record { contents = h.contents; files = h.files; gives = other_value e shows (judge ss whole h.contents) i u x same h.gives }

same_end : {U V : Type 0} (shows : U → Expectation) (other : V → Expectation) (o : Option Expectation) (i : Input) (f : End) → GivesExpectation shows o i (Err f) → GivesExpectation other o i (Err f)
same_end shows other None i f h = h
same_end shows other (Some d) i f h = h

pub stopped_so : {U V : Type 0} (shows : U → Expectation) (other : V → Expectation) (ss : List Step) (whole : List (List ℕ) → Option Expectation) (i : Input) (f : End)
    → Reads shows ss whole i (Err f) → Reads other ss whole i (Err f)
stopped_so shows other ss whole i f h = record { contents = h.contents; files = h.files; gives = same_end shows other (judge ss whole h.contents) i f h.gives }

-- an end that is handed on as it is
pub handed_on : {V : Type 0} (shows : V → Expectation) (ss : List Step) (whole : List (List ℕ) → Option Expectation) (i : Input) (r : Result V End) (f : End) → IsErrAnd r (λ x. x ≡ f)
    → Reads shows ss whole i (Err f) → Reads shows ss whole i r
handed_on shows ss whole i (Ok v) f same h = absurd same
handed_on shows ss whole i (Err x) f same h = subst (λ (y : End). Reads shows ss whole i (Err y)) (sym same) h

-- the files of an engine are those of the one that it is
pub by_engine : {V : Type 0} (a b : Engine) (shows : V → Expectation) (whole : List (List ℕ) → Option Expectation) (i : Input) (r : Result V End) → a ≡ b
    → Reads shows (engine_steps b) whole i r → Reads shows (engine_steps a) whole i r
by_engine a b shows whole i r same h = subst (λ (x : Engine). Reads shows (engine_steps x) whole i r) (sym same) h

-- an engine that has no files has read them
pub none_to_read : {V : Type 0} (shows : V → Expectation) (whole : List (List ℕ) → Option Expectation) (i : Input) (v : V) → whole [] ≡ Some (shows v) → IsDone (shows v).end
    → i.asked_after ≡ i.asked_before → Reads shows [] whole i (Ok v)
none_to_read shows whole i v made done unasked = record {
  contents = [];
  files = record {
    as_told = none_told [] i.told;
    count = 0;
    asked = unasked ∙ sym (append-nil i.asked_before);
    least = omega arith;
    most = omega arith;
    in_order = λ j lt. absurd (omega arith);
  };
  gives = subst (λ (o : Option Expectation). GivesExpectation shows o i (Ok v)) (sym made) (refl, done);
}

-- what files make that are not refused
pub run_made : (fuel : ℕ) (digest : Bool) (p : Result Image End) (q : Result Devices End) (i : Image) (d : Devices) → p ≡ Ok i → q ≡ Ok d → expectation_of_run fuel digest p q ≡ Some (run_shows fuel digest i d)
run_made fuel digest p q i d image devices =
    ap (λ (x : Result Image End). expectation_of_run fuel digest x q) image ∙ ap (λ (y : Result Devices End). expectation_of_run fuel digest (Ok i) y) devices
