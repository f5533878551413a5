-- The steps of the interpolation: one quotient more, one point more.
use Rattle.std.proofs.Common.{◌≡◌, ℕ, ◌+◌, ◌<◌, ◌≤◌, List, [], ◌∷◌, ◌++◌, length, get_or, take, drop, Some, None, Option, sym, refl, ap, ◌∙◌, subst, ap₂}
use Rattle.std.specs.List.{AllByRecursion}
use Rattle.std.proofs.ByRecursion.{All-append}
use Rattle.std.proofs.lemmas.List.{take-append-drop, take_all, take_more, map-append}
use Rattle.field.specs.Laws.{Laws}
use Rattle.field.specs.declared.interpolation.point.Point.{Point}
use Rattle.field.specs.Interpolation.{Absent, Distinct, TimesQuotients, xs_of, value_or, quotients, lagrange_after, Interpolated, OnePolynomial}
use Rattle.field.proofs.FieldRing as Ring
use Rattle.field.proofs.Horner.{next as item-next, finished}
use Rattle.field.proofs.Lagrange as Lagrange

-- ---- a list at one place
split_at : {A : Type 0} (l : List A) (i : ℕ) (p : A) → i < length l → p ≡ get_or l i p → l ≡ take i l ++ (p ∷ drop (i + 1) l)
split_at l i p h e = sym (take-append-drop i l) ∙ ap (λ m. take i l ++ m) (item-next l i p h e)

pub xs_split : {F : Type 0} (l : List (Point F)) (i : ℕ) (p : Point F) → i < length l → p ≡ get_or l i p
    → xs_of l ≡ xs_of (take i l) ++ (p.x ∷ xs_of (drop (i + 1) l))
xs_split l i p h e = ap xs_of (split_at l i p h e) ∙ map-append (λ q. q.x) (take i l) (p ∷ drop (i + 1) l)

take_next : {A : Type 0} (l : List A) (i : ℕ) (p : A) → i < length l → p ≡ get_or l i p → take (i + 1) l ≡ take i l ++ (p ∷ [])
take_next l i p h e = take_more l i p h ∙ ap (λ y. take i l ++ (y ∷ [])) (sym e)

pub xs_take : {F : Type 0} (l : List (Point F)) (i : ℕ) (p : Point F) → i < length l → p ≡ get_or l i p
    → xs_of (take (i + 1) l) ≡ xs_of (take i l) ++ (p.x ∷ [])
xs_take l i p h e = ap xs_of (take_next l i p h e) ∙ map-append (λ q. q.x) (take i l) (p ∷ [])

pub xs_drop : {F : Type 0} (l : List (Point F)) (i : ℕ) (p : Point F) → i < length l → p ≡ get_or l i p
    → xs_of (drop i l) ≡ p.x ∷ xs_of (drop (i + 1) l)
xs_drop l i p h e = ap xs_of (item-next l i p h e)

-- ---- all but one
all-around : {A : Type 0} (P : A → Type 0) (front : List A) (x : A) (rest : List A) → AllByRecursion P (front ++ (x ∷ rest)) → P x
all-around P [] x rest all = all.0
all-around P (y ∷ front) x rest all = all-around P front x rest all.1

all_left : {A : Type 0} (P : A → Type 0) (front rest : List A) → AllByRecursion P (front ++ rest) → AllByRecursion P front
all_left P [] rest all = tt
all_left P (y ∷ front) rest all = (all.0, all_left P front rest all.1)

distinct_around : {A : Type 0} (front : List A) (x : A) (rest : List A) → Distinct (front ++ (x ∷ rest))
    → Absent x front × Absent x rest
distinct_around [] x rest d = (tt, d.0)
distinct_around (y ∷ front) x rest d =
    let more = distinct_around front x rest d.1 in
    (((λ e. all-around (λ z. z ≡ y → ⊥) front x rest d.0 (sym e)), more.0), more.1)

module _ {F : Type 0} {zeroF one : F} {◌⊕◌ ◌⊗◌ : F → F → F} {inverse : F → Option F} (law : Laws zeroF one ◌⊕◌ ◌⊗◌ inverse) (x : F) where
  infixl 60 ◌⊕◌
  infixl 70 ◌⊗◌
  abbrev Q : F → List F → F
  Q = quotients zeroF one ◌⊕◌ ◌⊗◌ inverse x

  abbrev L : List F → List (Point F) → F
  L = lagrange_after zeroF one ◌⊕◌ ◌⊗◌ inverse x

  -- ---- one quotient more
  no_divisor : (xi xj : F) → inverse (xi ⊕ xj) ≡ None → (xj ≡ xi → ⊥) → ⊥
  no_divisor xi xj none apart =
      let i = law.inverse_other (xi ⊕ xj) (Ring.apart law xi xj (λ e. apart (sym e))) in
      cc (none, i.1.0)

  a-divisor : (xi xj d : F) → inverse (xi ⊕ xj) ≡ Some d → xj ≡ xi → ⊥
  a-divisor xi xj d some e =
      cc (ap inverse (ap (λ y. xi ⊕ y) e ∙ law.sum_self xi) ∙ law.inverse_zero, some)

  quotients-step : (xi xj d result next : F) (xs : List F) → inverse (xi ⊕ xj) ≡ Some d → next ≡ (result ⊗ ((x ⊕ xj) ⊗ d))
      → (next ⊗ Q xi xs) ≡ (result ⊗ Q xi (xj ∷ xs))
  quotients-step xi xj d result next xs some is =
      ap (λ y. y ⊗ Q xi xs) is ∙ law.product_assoc result ((x ⊕ xj) ⊗ d) (Q xi xs)
      ∙ ap (λ o. result ⊗ (((x ⊕ xj) ⊗ value_or zeroF o) ⊗ Q xi xs)) (sym some)

  meets : (xi : F) (l : List (Point F)) (i : ℕ) (p : Point F) → i < length l → p ≡ get_or l i p → inverse (xi ⊕ p.x) ≡ None
      → Absent xi (xs_of l) → ⊥
  meets xi l i p h e none all =
      no_divisor xi p.x none
      (all-around (λ xj. xj ≡ xi → ⊥) (xs_of (take i l)) p.x (xs_of (drop (i + 1) l)) (subst (Absent xi) (xs_split l i p h e) all))

  pub quotients-none : (xi start : F) (l : List (Point F)) (i : ℕ) (p : Point F) (r : Option F) → i < length l → p ≡ get_or l i p
      → inverse (xi ⊕ p.x) ≡ None → r ≡ None
      → TimesQuotients zeroF one ◌⊕◌ ◌⊗◌ inverse start x xi (xs_of l) r
  quotients-none xi start l i p None h e none is = meets xi l i p h e none
  quotients-none xi start l i p (Some v) h e none is = absurd (cc)

  pub quotients-more : (xi start result next d : F) (l : List (Point F)) (i : ℕ) (p : Point F) → i < length l → p ≡ get_or l i p
      → inverse (xi ⊕ p.x) ≡ Some d → next ≡ (result ⊗ ((x ⊕ p.x) ⊗ d))
      → ((result ⊗ Q xi (xs_of (drop i l))) ≡ (start ⊗ Q xi (xs_of l))) × Absent xi (xs_of (take i l))
      → ((next ⊗ Q xi (xs_of (drop (i + 1) l))) ≡ (start ⊗ Q xi (xs_of l))) × Absent xi (xs_of (take (i + 1) l))
  quotients-more xi start result next d l i p h e some is inv = (
    quotients-step xi p.x d result next (xs_of (drop (i + 1) l)) some is ∙ ap (λ xs. result ⊗ Q xi xs) (sym (xs_drop l i p h e)) ∙ inv.0,
    subst (Absent xi) (sym (xs_take l i p h e))
        (All-append (λ xj. xj ≡ xi → ⊥) (xs_of (take i l)) (p.x ∷ []) inv.1 (a-divisor xi p.x d some, tt)),
  )

  pub quotients-all : (xi start result : F) (l : List (Point F)) (i : ℕ) → i ≤ length l → length l ≤ i
      → ((result ⊗ Q xi (xs_of (drop i l))) ≡ (start ⊗ Q xi (xs_of l))) × AllByRecursion (λ xj. xj ≡ xi → ⊥) (xs_of (take i l))
      → AllByRecursion (λ xj. xj ≡ xi → ⊥) (xs_of l) × (result ≡ (start ⊗ Q xi (xs_of l)))
  quotients-all xi start result l i h k inv = (
    subst (λ m. AllByRecursion (λ xj. xj ≡ xi → ⊥) (xs_of m)) (take_all i l k) inv.1,
    sym (law.product_one result) ∙ ap (λ m. result ⊗ Q xi (xs_of m)) (sym (finished l i h k)) ∙ inv.0,
  )

  -- ---- one point more
  Q-append : (xi : F) (xs ys : List F) → Q xi (xs ++ ys) ≡ (Q xi xs ⊗ Q xi ys)
  Q-append xi [] ys = sym (law.product_comm one (Q xi ys) ∙ law.product_one (Q xi ys))
  Q-append xi (xj ∷ xs) ys =
      ap (λ y. ((x ⊕ xj) ⊗ value_or zeroF (inverse (xi ⊕ xj))) ⊗ y) (Q-append xi xs ys)
      ∙ sym (law.product_assoc _ (Q xi xs) (Q xi ys))

  -- from lists that are the points before it and the points after it
  pub point_between : (total next before term : F) (l front rest : List (Point F)) (i : ℕ) (p : Point F) → i < length l → p ≡ get_or l i p
      → front ≡ take i l → rest ≡ drop (i + 1) l
      → AllByRecursion (λ xj. xj ≡ p.x → ⊥) (xs_of rest)
      → before ≡ (p.y ⊗ Q p.x (xs_of front)) → term ≡ (before ⊗ Q p.x (xs_of rest)) → next ≡ (total ⊕ term)
      → ((total ⊕ L (xs_of (take i l)) (drop i l)) ≡ L [] l) × (Distinct (xs_of (drop i l)) → Distinct (xs_of l))
      → ((next ⊕ L (xs_of (take (i + 1) l)) (drop (i + 1) l)) ≡ L [] l) × (Distinct (xs_of (drop (i + 1) l)) → Distinct (xs_of l))
  point_between total next before term l front rest i p h e is_front is-rest far is-before is-term is-next inv =
      let fs = xs_of (take i l) in
      let rs = xs_of (drop (i + 1) l) in
      let whole : term ≡ (p.y ⊗ Q p.x (fs ++ rs)) =
      is-term ∙ ap (λ y. y ⊗ Q p.x (xs_of rest)) is-before ∙ law.product_assoc p.y (Q p.x (xs_of front)) (Q p.x (xs_of rest))
      ∙ ap₂ (λ a b. p.y ⊗ (Q p.x (xs_of a) ⊗ Q p.x (xs_of b))) is_front is-rest
      ∙ ap (λ y. p.y ⊗ y) (sym (Q-append p.x fs rs)) in (
        ap₂ (λ a xs. a ⊕ L xs (drop (i + 1) l)) (is-next ∙ ap (λ y. total ⊕ y) whole) (xs_take l i p h e)
            ∙ law.sum_assoc total _ (L (fs ++ (p.x ∷ [])) (drop (i + 1) l))
            ∙ ap (λ m. total ⊕ L fs m) (sym (item-next l i p h e)) ∙ inv.0,
        λ d. inv.1 (subst Distinct (sym (xs_drop l i p h e)) (subst (λ m. AllByRecursion (λ xj. xj ≡ p.x → ⊥) (xs_of m)) is-rest far, d)),
      )

  pub point_more : (total next before term : F) (l : List (Point F)) (i : ℕ) (p : Point F) → i < length l → p ≡ get_or l i p
      → Absent p.x (xs_of (drop (i + 1) l))
      → before ≡ (p.y ⊗ Q p.x (xs_of (take i l))) → term ≡ (before ⊗ Q p.x (xs_of (drop (i + 1) l))) → next ≡ (total ⊕ term)
      → ((total ⊕ L (xs_of (take i l)) (drop i l)) ≡ L [] l) × (Distinct (xs_of (drop i l)) → Distinct (xs_of l))
      → ((next ⊕ L (xs_of (take (i + 1) l)) (drop (i + 1) l)) ≡ L [] l) × (Distinct (xs_of (drop (i + 1) l)) → Distinct (xs_of l))
  point_more total next before term l i p h e = point_between total next before term l (take i l) (drop (i + 1) l) i p h e refl refl

  pub points_all : (total : F) (l : List (Point F)) (i : ℕ) → i ≤ length l → length l ≤ i
      → ((total ⊕ L (xs_of (take i l)) (drop i l)) ≡ L [] l) × (Distinct (xs_of (drop i l)) → Distinct (xs_of l))
      → Distinct (xs_of l) × (total ≡ L [] l)
  points_all total l i h k inv = (
    inv.1 (subst (λ m. Distinct (xs_of m)) (sym (finished l i h k)) tt),
    sym (law.sum_zero total) ∙ ap (λ m. total ⊕ L (xs_of (take i l)) m) (sym (finished l i h k)) ∙ inv.0,
  )

  pub points_start : (total : F) (l : List (Point F)) → total ≡ zeroF → (total ⊕ L [] l) ≡ L [] l
  points_start total l e = ap (λ y. y ⊕ L [] l) e ∙ Ring.zero_sum law (L [] l)

  -- of a list that is the points before it, and of one that is the points after it
  pub not_in_front : (l front : List (Point F)) (i : ℕ) (p : Point F) → i < length l → p ≡ get_or l i p → front ≡ take i l
      → (AllByRecursion (λ xj. xj ≡ p.x → ⊥) (xs_of front) → ⊥) → Distinct (xs_of l) → ⊥
  not_in_front l front i p h e is none d =
      none (subst (λ m. AllByRecursion (λ xj. xj ≡ p.x → ⊥) (xs_of m)) (sym is)
      (distinct_around (xs_of (take i l)) p.x (xs_of (drop (i + 1) l)) (subst Distinct (xs_split l i p h e) d)).0)

  pub not_in_rest : (l rest : List (Point F)) (i : ℕ) (p : Point F) → i < length l → p ≡ get_or l i p → rest ≡ drop (i + 1) l
      → (AllByRecursion (λ xj. xj ≡ p.x → ⊥) (xs_of rest) → ⊥) → Distinct (xs_of l) → ⊥
  not_in_rest l rest i p h e is none d =
      none (subst (λ m. AllByRecursion (λ xj. xj ≡ p.x → ⊥) (xs_of m)) (sym is)
      (distinct_around (xs_of (take i l)) p.x (xs_of (drop (i + 1) l)) (subst Distinct (xs_split l i p h e) d)).1)

  pub not_before : (l : List (Point F)) (i : ℕ) (p : Point F) → i < length l → p ≡ get_or l i p
      → (Absent p.x (xs_of (take i l)) → ⊥) → Distinct (xs_of l) → ⊥
  not_before l i p h e = not_in_front l (take i l) i p h e refl

  pub not_after : (l : List (Point F)) (i : ℕ) (p : Point F) → i < length l → p ≡ get_or l i p
      → (Absent p.x (xs_of (drop (i + 1) l)) → ⊥) → Distinct (xs_of l) → ⊥
  not_after l i p h e = not_in_rest l (drop (i + 1) l) i p h e refl

  pub absent : (l : List (Point F)) (r : Option F) → r ≡ None → (Distinct (xs_of l) → ⊥) → Interpolated zeroF one ◌⊕◌ ◌⊗◌ inverse x l r
  absent l None is none = none
  absent l (Some v) is none = absurd (cc)

  -- ---- the polynomial
  pub one-polynomial : (l : List (Point F)) (r : Option F) → Interpolated zeroF one ◌⊕◌ ◌⊗◌ inverse x l r → OnePolynomial zeroF one ◌⊕◌ ◌⊗◌ inverse x l r
  one-polynomial l None is d = absurd (is d)
  one-polynomial l (Some v) is d =
      let p = Lagrange.the-polynomial law l d in
      (p.0, p.1, ap Some (is.1 ∙ p.1.value x))
