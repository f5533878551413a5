-- The name of each layer, as it is printed.
use Rattle.std.specs.Prelude.{ℕ, List, codes}
use Rattle.refusal.specs.declared.layers.Layer.{Layer}
use Rattle.refusal.specs.declared.layers.Layer.TheVariants as layer

abbrev pub layer_name : Layer → List ℕ
layer_name layer.List = codes "list"
layer_name layer.Text = codes "text"
layer_name layer.Card = codes "card"
layer_name layer.Cipher = codes "cipher"
layer_name layer.Digest = codes "digest"
layer_name layer.Deal = codes "deal"
layer_name layer.Source = codes "source"
layer_name layer.Tray = codes "tray"
