-- The laws of curves over a digest that obeys its own.
use Rattle.std.proofs.Common.{◌≡◌, ℕ, ◌≤◌, List, length, sym, subst}
use Rattle.digest.specs.Keyed.{Bytes}
use Rattle.sharing.specs.Curves.{CurveLaws}
use Rattle.sharing.specs.Values.{DealtCurve}
use Rattle.sharing.proofs.CurveTheorems as Theorems

module _ (keyed : List ℕ → List ℕ → List ℕ) (size : ℕ) (small : (4 ≤ size) × (size ≤ 64)) (sized : (key message : List ℕ) → length (keyed key message) ≡ size)
    (bytes : (key message : List ℕ) → Bytes key → Bytes message → Bytes (keyed key message)) where
  pub four : (key message : List ℕ) → 4 ≤ length (keyed key message)
  four key message = subst (λ k. 4 ≤ k) (sym (sized key message)) small.0

  pub laws : CurveLaws keyed
  laws = Theorems.curve_laws keyed four bytes

  pub dealt : DealtCurve keyed
  dealt = Theorems.dealt_curve keyed four bytes
