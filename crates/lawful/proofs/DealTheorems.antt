-- The theorems of lawful deals, for a digest and a round function that obey their laws.
use Rattle.std.proofs.Common.{ℕ, ◌<◌, Bool, List}
use Rattle.digest.specs.Keyed.{Bytes}
use Rattle.cipher.specs.Feistel.{under}
use Rattle.sharing.specs.Curves.{CurveLaws}
use Rattle.lawful.specs.DealLaws.{DealLaws}
use Rattle.lawful.specs.Opening.{OpeningLaws}
use Rattle.lawful.proofs.SecretBytes.{length-network, bytes-encrypted}
use Rattle.lawful.proofs.DealtCards.{dealt_lawful, dealt_together, dealt_once}
use Rattle.lawful.proofs.SomeDeal.{some_deal}
use Rattle.lawful.proofs.NoDeal.{no_deal}
use Rattle.lawful.proofs.OneSecret.{one_secret}
use Rattle.lawful.proofs.OneShown.{one_held, one_fault, not_both}

module _ (keyed : List ℕ → List ℕ → List ℕ) (curves : CurveLaws keyed) (function : ℕ → List ℕ → ℕ → Bool → ℕ → List ℕ → List ℕ)
    (bytes : (number : ℕ) (phrase : List ℕ) (id : ℕ) (flag : Bool) (e : ℕ) (part : List ℕ) → number < 4 → id < 32768 → e < 16 → Bytes phrase → Bytes part
    → Bytes (function number phrase id flag e part)) where
  pub opening_laws : OpeningLaws keyed function
  opening_laws =
      record {
        some_deal = λ passphrase phrase-bytes card more together met e holds. some_deal keyed curves function bytes passphrase phrase-bytes card more together met e holds;
        no_deal = λ passphrase cards together met row fault m. no_deal keyed curves function passphrase cards together met row fault m;
        one_secret = λ passphrase cards together met m n. one_secret keyed curves function passphrase cards together met m n;
        one_held = λ cards together met. one_held keyed curves cards together met;
        one_fault = λ cards together met. one_fault keyed curves cards together met;
        not_both = λ cards together met. not_both keyed curves cards together met;
      }

  pub deal_laws : DealLaws keyed function
  deal_laws =
      record {
        dealt_lawful = dealt_lawful keyed function;
        dealt_together = dealt_together keyed function;
        dealt_once = dealt_once keyed function;
        encrypted_length = λ passphrase identifier extendable exponent m. length-network (under function passphrase identifier extendable exponent) 0 1 2 3 m;
        encrypted_bytes = λ passphrase identifier extendable exponent m p i x h. bytes-encrypted function bytes passphrase identifier extendable exponent p i x m h;
      }
