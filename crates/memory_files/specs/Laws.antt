-- What a write to slots leaves as it is stays so over several writes.
-- Our choice: a restatement for proofs.
use Rattle.std.proofs.Common.{ℕ, ◌<◌, Bool, List, refl, ◌∙◌, sym, subst}
use Rattle.space_mem.specs.Held.{Held}
use Rattle.file_image.specs.Spared.{spared_in}
use Rattle.memory_files.specs.Slots.{KeepsRest, KeepsSlots}

pub keeps_itself : (h : Held) → KeepsRest h h
keeps_itself h = record { permissions = refl; elsewhere = λ a out. refl; kept = λ page. record { owned = refl; dirty = refl }; marks = λ page below clean. (clean, λ k low. refl) }

pub keeps_on : (g h i : Held) → KeepsRest g h → KeepsRest h i → KeepsRest g i
keeps_on g h i first second = record {
  permissions = second.permissions ∙ first.permissions;
  elsewhere = λ a out. second.elsewhere a out ∙ first.elsewhere a out;
  kept = λ page. record { owned = (second.kept page).owned ∙ (first.kept page).owned; dirty = (second.kept page).dirty ∙ (first.kept page).dirty };
  marks = λ page below clean. (let b = second.marks page below clean in let a = first.marks page below b.0 in (a.0, λ k low. b.1 k low ∙ a.1 k low));
}

pub slots_keep_themselves : (h : Held) (ready headers : List Bool) (whole : List ℕ) → KeepsSlots h h ready ready headers headers whole whole
slots_keep_themselves h ready headers whole = record { rest = keeps_itself h; ready = refl; headers = refl; whole = refl; spared = λ k i before. refl }

pub slots_keep_on : (g h i : Held) (q r s x y z : List Bool) (u v w : List ℕ) → KeepsSlots g h q r x y u v → KeepsSlots h i r s y z v w → KeepsSlots g i q s x z u w
slots_keep_on g h i q r s x y z u v w first second = record {
  rest = keeps_on g h i first.rest second.rest;
  ready = second.ready ∙ first.ready;
  headers = second.headers ∙ first.headers;
  whole = second.whole ∙ first.whole;
  spared = λ k j before. second.spared k j (subst (λ n. j < spared_in n k) (sym first.whole) before) ∙ first.spared k j before;
}
