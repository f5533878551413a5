-- Sums and products in any field with the laws.
use Rattle.std.proofs.Common.{◌≡◌, Option, sym, ap, ◌∙◌, ap₂}
use Rattle.field.specs.Laws.{Laws}

module _ {F : Type 0} {zeroF one : F} {◌⊕◌ ◌⊗◌ : F → F → F} {inverse : F → Option F} (law : Laws zeroF one ◌⊕◌ ◌⊗◌ inverse) where
  infixl 60 ◌⊕◌
  infixl 70 ◌⊗◌
  pub swap_mid : (a b c e : F) → ((a ⊕ b) ⊕ (c ⊕ e)) ≡ ((a ⊕ c) ⊕ (b ⊕ e))
  swap_mid a b c e =
      law.sum_assoc a b (c ⊕ e)
      ∙ ap (λ y. a ⊕ y) (sym (law.sum_assoc b c e) ∙ ap (λ y. y ⊕ e) (law.sum_comm b c) ∙ law.sum_assoc c b e)
      ∙ sym (law.sum_assoc a c (b ⊕ e))

  pub zero_sum : (a : F) → (zeroF ⊕ a) ≡ a
  zero_sum a = law.sum_comm zeroF a ∙ law.sum_zero a

  pub times_zero : (a : F) → (a ⊗ zeroF) ≡ zeroF
  times_zero a = ap (λ y. a ⊗ y) (sym (law.sum_self zeroF)) ∙ law.distributes a zeroF zeroF ∙ law.sum_self (a ⊗ zeroF)

  pub zero_times : (a : F) → (zeroF ⊗ a) ≡ zeroF
  zero_times a = law.product_comm zeroF a ∙ times_zero a

  pub distributes_r : (a b c : F) → ((a ⊕ b) ⊗ c) ≡ ((a ⊗ c) ⊕ (b ⊗ c))
  distributes_r a b c = law.product_comm (a ⊕ b) c ∙ law.distributes c a b ∙ ap₂ ◌⊕◌ (law.product_comm c a) (law.product_comm c b)

  pub left_comm : (a b c : F) → (a ⊗ (b ⊗ c)) ≡ (b ⊗ (a ⊗ c))
  left_comm a b c = sym (law.product_assoc a b c) ∙ ap (λ y. y ⊗ c) (law.product_comm a b) ∙ law.product_assoc b a c

  -- b added twice
  pub sum_back : (a b : F) → ((a ⊕ b) ⊕ b) ≡ a
  sum_back a b = law.sum_assoc a b b ∙ ap (λ y. a ⊕ y) (law.sum_self b) ∙ law.sum_zero a

  -- two elements whose sum is 0 are equal
  pub equal : (a b : F) → (a ⊕ b) ≡ zeroF → a ≡ b
  equal a b z = sym (sum_back a b) ∙ ap (λ y. y ⊕ b) z ∙ zero_sum b

  pub apart : (a b : F) → (a ≡ b → ⊥) → (a ⊕ b) ≡ zeroF → ⊥
  apart a b n z = n (equal a b z)

  -- a product that is 0 has a factor that is 0
  pub cancel : (a b : F) → (a ≡ zeroF → ⊥) → (a ⊗ b) ≡ zeroF → b ≡ zeroF
  cancel a b n z =
      let i = law.inverse_other a n in
      sym (law.product_one b) ∙ ap (λ y. b ⊗ y) (sym i.1.1) ∙ left_comm b a i.0
      ∙ sym (law.product_assoc a b i.0) ∙ ap (λ y. y ⊗ i.0) z ∙ zero_times i.0
