-- The console and the report of a settled tree.
-- Our choice: the text.
use Rattle.std.specs.Prelude.{ℕ, ◌^◌, ◌-◌, Bool, false, cond, List, [], ◌∷◌, ◌++◌}
use Rattle.std.specs.List.{flat_map}
use Rattle.std.specs.Fmt.{decimal, digits, padded_integral, format_spec}
use Rattle.space_model.specs.declared.Status.{Status}
use Rattle.space_model.specs.declared.Status.TheVariants.{Running, Stopped}
use Rattle.space_model.specs.Stop.{cause_word}
use Rattle.space_model.specs.Space.{Space, space, Children, none, child, Top, top_of, console_bytes}
use Rattle.report_model.specs.Digest.{digest_text}

-- eight hexadecimal digits in lower case, with zeros before them, as `{:08x}` writes them
abbrev pub hex8 : ℕ → List ℕ
hex8 n = padded_integral (format_spec 32 0 4 8 (2 ^ 64 - 1)) false [] (digits 16 false n)

-- `/`, or `/` and a number for each level
abbrev pub path_text : List ℕ → List ℕ
path_text [] = 47 ∷ []
path_text (n ∷ ns) = flat_map (λ k. 47 ∷ decimal k) (n ∷ ns)

-- the cause's word and the value
abbrev pub stop_text : Status → List ℕ
stop_text Running = []
stop_text (Stopped cause value) = cause_word cause ++ 32 ∷ hex8 value

-- cause, value, pc and used, a space before each
abbrev pub state_text : Top → List ℕ
state_text t = 32 ∷ (stop_text t.status ++ 32 ∷ (hex8 t.registers.pc ++ 32 ∷ decimal t.used))

-- a space and the digest of a memory, where digests are asked for
abbrev pub digest_part : Bool → Top → List ℕ
digest_part digest t = cond digest (32 ∷ digest_text t.memory) []

-- a space's line: its path, its state, its digest, and a line feed
abbrev pub line : Bool → List ℕ → Top → List ℕ
line digest path t = path_text path ++ (state_text t ++ (digest_part digest t ++ 10 ∷ []))

-- parents before children, children by rising number
unfoldable mutual
  pub report_of : Bool → List ℕ → Space → List ℕ
  report_of digest path (space t cs) = line digest path t ++ reports_of digest path cs

  pub reports_of : Bool → List ℕ → Children → List ℕ
  reports_of digest path none = []
  reports_of digest path (child n s rest) = report_of digest (path ++ n ∷ []) s ++ reports_of digest path rest

-- of a whole tree, with digests or without
abbrev pub report : Bool → Space → List ℕ
report digest s = report_of digest [] s

-- what the root has written to its console
abbrev pub console_of : Space → List ℕ
console_of s = let t = top_of s in console_bytes t.devices
