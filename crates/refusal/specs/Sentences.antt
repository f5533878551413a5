-- The sentence about each refusal, and what all of them keep to, so that they can stand at the end of an answer's line.
use Rattle.std.specs.Prelude.{ℕ, Bool, true, not, ◌&&◌, List, [], ◌∷◌, ◌==◌, nat_le, codes}
use Rattle.refusal.specs.declared.Refusal.{Refusal}
use Rattle.refusal.specs.declared.Refusal.TheVariants.{FaultyWordFile, ForbiddenByte, NoSuchWord, WordCount, WrongChecksum, PaddingNotZero, GroupNumbers, MemberAtThresholdOne, Passphrase, SecretLength, Plan, SpaceTooShort, InputTooLong, EmptyTray, BindingBroken, SameCard, OtherValue, TrayFull, Lacking, Contradictory, NoCardThere, TooFewBytes, NoSuchCard}

-- printable ASCII, from the space to ~, but no colon
abbrev pub plain_byte : ℕ → Bool
plain_byte b = nat_le 32 b && (nat_le b 126 && not (b == 58))

abbrev pub plain_line : List ℕ → Bool
plain_line [] = true
plain_line (b ∷ bs) = plain_byte b && plain_line bs

abbrev pub sentence_of : Refusal → List ℕ
sentence_of (FaultyWordFile offset) = codes "the word file has a faulty or a missing line here"
sentence_of (ForbiddenByte offset) = codes "only a to z, 0 to 9, space and tab may stand before a remark"
sentence_of (NoSuchWord offset) = codes "the word here is under four letters or begins no word of the list"
sentence_of (WordCount words) = codes "no card has this number of words"
sentence_of WrongChecksum = codes "the checksum is wrong, so at least one word is"
sentence_of PaddingNotZero = codes "the padding before the value is not all zero bits"
sentence_of GroupNumbers = codes "the group number or the group threshold is too high for the group count"
sentence_of MemberAtThresholdOne = codes "at member threshold 1 the member number must be 0"
sentence_of (Passphrase position) = codes "a passphrase has at most 100 bytes, each of them printable ASCII"
sentence_of (SecretLength length) = codes "the secret does not have a length that is allowed here"
sentence_of (Plan field) = codes "a part of the plan is out of its range"
sentence_of (SpaceTooShort called wanted) = codes "the space given is too short"
sentence_of InputTooLong = codes "a key or a message has at most 65536 bytes"
sentence_of EmptyTray = codes "no card lies in the tray"
sentence_of (BindingBroken field) = codes "the card does not belong with those in the tray"
sentence_of (SameCard member) = codes "this card lies in the tray already"
sentence_of (OtherValue member) = codes "a card with another value lies at its place"
sentence_of TrayFull = codes "the tray is full"
sentence_of (Lacking row) = codes "more cards are needed"
sentence_of (Contradictory row) = codes "the cards in the tray contradict one another"
sentence_of (NoCardThere member) = codes "no card lies at that place"
sentence_of (TooFewBytes wanted) = codes "the source has too few bytes left"
sentence_of (NoSuchCard cards) = codes "the deal has no card of that number"
