-- The lines that answer commands.
use Rattle.std.specs.Prelude.{ℕ, cond, List, ◌++◌, take, replicate, Some, None, Ok, Err, codes, decimal, Option, Result}
use Rattle.std.specs.Str.{bytes_eq}
use Rattle.digest.specs.Keyed.{digest_answer, chain_answer, written, last_link, chain_total}
use Rattle.digest.specs.Sha256.{sha256}
use Rattle.digest.specs.Hmac.{hmac}
use Rattle.digest.specs.Drill.{drill_digest}
use Rattle.digests.specs.Data.{number_in, bytes_of}
use Rattle.digests.specs.declared.command.Words.{Words}
use Rattle.hex.specs.Hex.{encode_lower}
use Rattle.refusal.specs.Layers.{layer_name}
use Rattle.refusal.specs.Refusals.{number_of, layer_of, place_of}
use Rattle.refusal.specs.declared.layers.Layer.{Layer}
use Rattle.refusal.specs.declared.Refusal.{Refusal}

-- a refusal's number, layer and place, then a text
abbrev pub refused_text : ℕ → Layer → ℕ → List ℕ → List ℕ
refused_text number layer place text = codes "refused " ++ decimal number ++ codes " " ++ layer_name layer ++ codes " " ++ decimal place ++ codes " " ++ text

-- the refusal, if it is one, then what the space holds after the call
abbrev pub reply_text : Result ℕ Refusal → List ℕ → List ℕ
reply_text (Ok count) space = encode_lower space
reply_text (Err refusal) space = refused_text (number_of refusal) (layer_of refusal) (place_of refusal) (encode_lower space)

-- the answer to words that stand for no bytes or write no number
abbrev pub malformed_text : List ℕ
malformed_text = codes "malformed"

-- the answer to `sha256`
abbrev pub hash_text : Option (List ℕ) → List ℕ
hash_text None = malformed_text
hash_text (Some message) = encode_lower (sha256 message)

-- the space before a call
abbrev pub blank : ℕ → List ℕ
blank count = replicate count 238

-- what the digest of so many bytes that is f under each key answers
module _ (size : ℕ) (f : List ℕ → List ℕ → List ℕ) where
  abbrev pub digest_reply : ℕ → List ℕ → List ℕ → List ℕ
  digest_reply count key message =
      reply_text (digest_answer size key message (blank count)) (written (digest_answer size key message (blank count)) (f key message) (blank count))

  abbrev pub digest_text : Option ℕ → Option (List ℕ) → Option (List ℕ) → List ℕ
  digest_text None key message = malformed_text
  digest_text (Some count) None message = malformed_text
  digest_text (Some count) (Some key) None = malformed_text
  digest_text (Some count) (Some key) (Some message) = digest_reply count key message

  -- the last link or the refusal, then the total
  abbrev pub chain_reply : ℕ → List ℕ → List ℕ → List ℕ → List ℕ
  chain_reply count key link total =
      reply_text (chain_answer size key link total) (written (chain_answer size key link total) (last_link (f key) (take size link) count) link) ++
      codes " " ++
      encode_lower (written (chain_answer size key link total) (chain_total (f key) (take size link) (take size total) count) total)

  abbrev pub chain_text : Option ℕ → Option (List ℕ) → Option (List ℕ) → Option (List ℕ) → List ℕ
  chain_text None key link total = malformed_text
  chain_text (Some count) None link total = malformed_text
  chain_text (Some count) (Some key) None total = malformed_text
  chain_text (Some count) (Some key) (Some link) None = malformed_text
  chain_text (Some count) (Some key) (Some link) (Some total) = chain_reply count key link total

  -- the same of a command's words
  abbrev pub digest_of_words : Words → List ℕ
  digest_of_words words = digest_text (number_in 16 words.first.now) (bytes_of words.second.now) (bytes_of words.third.now)

  abbrev pub chain_of_words : Words → List ℕ
  chain_of_words words = chain_text (number_in 32 words.first.now) (bytes_of words.second.now) (bytes_of words.third.now) (bytes_of words.fourth.now)

-- the answer to the words of a line
abbrev pub answer_text : Words → List ℕ
answer_text words =
    cond (bytes_eq words.name.now (codes "sha256")) (hash_text (bytes_of words.first.now))
    (cond (bytes_eq words.name.now (codes "hmac")) (digest_of_words 32 (hmac sha256) words)
    (cond (bytes_eq words.name.now (codes "drill")) (digest_of_words 4 drill_digest words)
    (cond (bytes_eq words.name.now (codes "hmac-chain")) (chain_of_words 32 (hmac sha256) words)
    (cond (bytes_eq words.name.now (codes "drill-chain")) (chain_of_words 4 drill_digest words) malformed_text))))
