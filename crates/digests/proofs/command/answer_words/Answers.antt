-- No command has another name.
use Rattle.std.proofs.Common.{◌≡◌, ℕ, Bool, true, false, List, refl}
use Rattle.std.proofs.lemmas.Slice.Eq.{bytes_eq-Decides}
use Rattle.std.specs.Str.{bytes_eq}
use Rattle.digests.proofs.command.answer_words.Goals as goal

fails : (t : Bool) → (t ≡ true → ⊥) → t ≡ false
fails true h = absurd (h refl)
fails false h = refl

other : (name command : List ℕ) → (name ≡ command → ⊥) → bytes_eq name command ≡ false
other name command h = fails (bytes_eq name command) (λ e. h ((bytes_eq-Decides name command).0 e))

pub returns-in_default : goal.returns-in_default
returns-in_default c =
    let name = c.args.words.name.now in
    rw (
      other name _ c.in_default.not-sha256,
      other name _ c.in_default.not-hmac,
      other name _ c.in_default.not-drill,
      other name _ c.in_default.not-text,
      other name _ c.in_default.not-text-2,
    )
    c.malformed.ensures
