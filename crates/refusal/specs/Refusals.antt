-- The number, the layer and the place of each refusal.
use Rattle.std.specs.Prelude.{ℕ}
use Rattle.refusal.specs.declared.layers.Layer.{Layer}
use Rattle.refusal.specs.declared.layers.Layer.TheVariants as layer
use Rattle.refusal.specs.declared.Refusal.{Refusal}
use Rattle.refusal.specs.declared.Refusal.TheVariants.{FaultyWordFile, ForbiddenByte, NoSuchWord, WordCount, WrongChecksum, PaddingNotZero, GroupNumbers, MemberAtThresholdOne, Passphrase, SecretLength, Plan, SpaceTooShort, InputTooLong, EmptyTray, BindingBroken, SameCard, OtherValue, TrayFull, Lacking, Contradictory, NoCardThere, TooFewBytes, NoSuchCard}
use Rattle.refusal.specs.Fields.{bound_place, plan_place, row_place}

abbrev pub number_of : Refusal → ℕ
number_of (FaultyWordFile offset) = 1
number_of (ForbiddenByte offset) = 2
number_of (NoSuchWord offset) = 3
number_of (WordCount words) = 4
number_of WrongChecksum = 5
number_of PaddingNotZero = 6
number_of GroupNumbers = 7
number_of MemberAtThresholdOne = 8
number_of (Passphrase position) = 9
number_of (SecretLength length) = 10
number_of (Plan field) = 11
number_of (SpaceTooShort called wanted) = 12
number_of InputTooLong = 13
number_of EmptyTray = 21
number_of (BindingBroken field) = 22
number_of (SameCard member) = 23
number_of (OtherValue member) = 24
number_of TrayFull = 25
number_of (Lacking row) = 26
number_of (Contradictory row) = 27
number_of (NoCardThere member) = 28
number_of (TooFewBytes wanted) = 29
number_of (NoSuchCard cards) = 30

abbrev pub layer_of : Refusal → Layer
layer_of (FaultyWordFile offset) = layer.List
layer_of (ForbiddenByte offset) = layer.Text
layer_of (NoSuchWord offset) = layer.Text
layer_of (WordCount words) = layer.Card
layer_of WrongChecksum = layer.Card
layer_of PaddingNotZero = layer.Card
layer_of GroupNumbers = layer.Card
layer_of MemberAtThresholdOne = layer.Card
layer_of (Passphrase position) = layer.Cipher
layer_of (SecretLength length) = layer.Cipher
layer_of (Plan field) = layer.Deal
layer_of (SpaceTooShort called wanted) = called
layer_of InputTooLong = layer.Digest
layer_of EmptyTray = layer.Tray
layer_of (BindingBroken field) = layer.Tray
layer_of (SameCard member) = layer.Tray
layer_of (OtherValue member) = layer.Tray
layer_of TrayFull = layer.Tray
layer_of (Lacking row) = layer.Tray
layer_of (Contradictory row) = layer.Tray
layer_of (NoCardThere member) = layer.Tray
layer_of (TooFewBytes wanted) = layer.Source
layer_of (NoSuchCard cards) = layer.Deal

abbrev pub place_of : Refusal → ℕ
place_of (FaultyWordFile offset) = offset
place_of (ForbiddenByte offset) = offset
place_of (NoSuchWord offset) = offset
place_of (WordCount words) = words
place_of WrongChecksum = 0
place_of PaddingNotZero = 4
place_of GroupNumbers = 2
place_of MemberAtThresholdOne = 3
place_of (Passphrase position) = position
place_of (SecretLength length) = length
place_of (Plan field) = plan_place field
place_of (SpaceTooShort called wanted) = wanted
place_of InputTooLong = 65536
place_of EmptyTray = 0
place_of (BindingBroken field) = bound_place field
place_of (SameCard member) = member.value
place_of (OtherValue member) = member.value
place_of TrayFull = 256
place_of (Lacking row) = row_place row
place_of (Contradictory row) = row_place row
place_of (NoCardThere member) = member
place_of (TooFewBytes wanted) = wanted
place_of (NoSuchCard cards) = cards
