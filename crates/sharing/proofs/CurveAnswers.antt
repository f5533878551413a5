-- What the shares that fix the polynomials, and the others, say of the curve through all of them.
use Rattle.std.proofs.Common.{◌≡◌, ℕ, zero, suc, ◌+◌, ◌-◌, ◌*◌, ◌≤◌, List, [], ◌∷◌, length, take, drop, sym, refl, ap, ◌∙◌, subst, ap₂, mul-le-mul_right, suc-mul, add-mul, add_comm, zero-mul, arith, length-drop, length-take}
use lib.ListN.{length-map}
use Rattle.std.specs.List.{All}
use Rattle.std.proofs.ByRecursion.{All-map}
use Rattle.std.specs.List.{take-map, drop-map}
use Rattle.std.proofs.lemmas.List.{drop-drop, take-take, drop-take}
use Rattle.std.proofs.lemmas.List.Elements.{recursion_from_All}
use Rattle.sharing.specs.Curves.{On, OnCurve}
use Rattle.sharing.specs.declared.share.Share.{Share as Lent}
use Rattle.sharing.specs.declared.curve.NoSecret.TheVariants.{NoCurve}
use Rattle.sharing.specs.Values.{lent, plain, shares_of, value_through, Sound, Checked, AllFit, NoSecretOf}
use Rattle.sharing.proofs.LentShares.{shares_sound, of_plain}
use Rattle.sharing.proofs.CurveTheorems as Theorems

on_lent : (f : ℕ → List ℕ) (others : List Lent) → All (λ s. f s.x ≡ s.value.now) others → On f (plain others)
on_lent f others all = All-map (λ s. f s.x ≡ s.value) lent others (recursion_from_All (λ s. f s.x ≡ s.value.now) others all)

lent_on : (f : ℕ → List ℕ) (others : List Lent) → On f (plain others) → All (λ s. f s.x ≡ s.value.now) others
lent_on f others on = of_plain (λ s. f s.x ≡ s.value) others on

module _ (keyed : List ℕ → List ℕ → List ℕ) (four : (key message : List ℕ) → 4 ≤ length (keyed key message))
    (t n : ℕ) (shares : List Lent) (sound : Sound n shares) (least : 1 ≤ t) (enough : t ≤ length shares)
    (m : ℕ) (fixing others : List Lent) (em : m ≡ n) (ef : fixing ≡ take t shares) (eo : others ≡ drop t shares) where
  size : t ≤ length (plain shares)
  size = subst (λ k. t ≤ k) (sym (length-map shares lent)) enough

  -- the polynomials through the first t shares
  abbrev whole : ℕ → List ℕ
  whole = value_through n (take t (plain shares))

  same : value_through m (plain fixing) ≡ whole
  same = ap₂ value_through em (ap plain ef ∙ sym (take-map lent t shares))

  rest : plain others ≡ drop t (plain shares)
  rest = ap plain eo ∙ sym (drop-map lent t shares)

  count : length fixing ≡ t
  count = ap length ef ∙ omega (arith, length-take t shares)

  module _ (secret : List ℕ) (is : secret ≡ value_through m (plain fixing) 255) where
    secret-is : secret ≡ whole 255
    secret-is = is ∙ ap (λ f. f 255) same

    pub secret_no : (AllFit keyed m fixing others secret → ⊥) → NoSecretOf keyed t n shares NoCurve
    secret_no off = (
      sound,
      enough,
      λ other on.
          let w = Theorems.off_curve keyed n t (plain shares) (shares_sound n shares sound) least size four other on in
          off (
            lent_on (value_through m (plain fixing)) others (subst (λ f. On f (plain others)) (sym same) (subst (On whole) (sym rest) w.0)),
            λ two.
                subst (λ f. Checked keyed m (f 254) secret) (sym same)
                (subst (λ s. Checked keyed m (whole 254) s) (sym secret-is) (subst (λ k. Checked keyed k (whole 254) (whole 255)) (sym em) (w.1 (subst (λ k. 2 ≤ k) count two)))),
          ),
    )

    pub secret_yes : AllFit keyed m fixing others secret → (after : List ℕ) → after ≡ secret → Sound n shares × (t ≤ length shares) × OnCurve keyed t after (plain shares)
    secret_yes fit after ea = (
      sound,
      enough,
      subst (λ s. OnCurve keyed t s (plain shares)) (sym (ea ∙ secret-is))
          (Theorems.on_curve keyed n t (plain shares) (shares_sound n shares sound) least size
          (subst (On whole) rest (subst (λ f. On f (plain others)) same (on_lent (value_through m (plain fixing)) others fit.0)))
          (λ two. subst (λ k. Checked keyed k (whole 254) (whole 255)) em
          (subst (λ s. Checked keyed m (whole 254) s) secret-is (subst (λ f. Checked keyed m (f 254) secret) same (fit.1 (subst (λ k. 2 ≤ k) (sym count) two)))))),
    )

-- ---- flat shares: the first and the others
pub take-shares : (t n : ℕ) (xs values : List ℕ) → t ≤ length xs → shares_of n (take t xs) (take (t * n) values) ≡ take t (shares_of n xs values)
take-shares zero n xs values h = refl
take-shares (suc t) n [] values h = absurd (omega arith)
take-shares (suc t) n (x ∷ xs) values h =
    let e : suc t * n ≡ n + t * n = suc-mul t n ∙ add_comm (t * n) n in
    ap₂ (λ v l. record { x = x; value = v } ∷ l)
    (ap (λ k. take n (take k values)) e ∙ take-take n (n + t * n) values (omega arith))
    (ap (shares_of n (take t xs)) (ap (λ k. drop n (take k values)) e ∙ drop-take n (t * n) values) ∙ take-shares t n xs (drop n values) (omega arith))

drop-shares : (t n : ℕ) (xs values : List ℕ) → shares_of n (drop t xs) (drop (t * n) values) ≡ drop t (shares_of n xs values)
drop-shares zero n xs values = ap (λ k. shares_of n xs (drop k values)) (zero-mul n)
drop-shares (suc t) n [] values = refl
drop-shares (suc t) n (x ∷ xs) values =
    let e : suc t * n ≡ n + t * n = suc-mul t n ∙ add_comm (t * n) n in
    ap (shares_of n (drop t xs)) (ap (λ k. drop k values) e ∙ sym (drop-drop (t * n) n values)) ∙ drop-shares t n xs (drop n values)

module _ (t n : ℕ) (xs values : List ℕ) (filled : length values ≡ length xs * n) (enough : t ≤ length xs) where
  pub first_within : t * n ≤ length values
  first_within =
      let m : t * n ≤ length xs * n = mul-le-mul_right n enough in
      omega arith

  pub others_filled : length (drop (t * n) values) ≡ length (drop t xs) * n
  others_filled =
      let m = first_within in
      let a : length (drop (t * n) values) ≡ length values - t * n = length-drop (t * n) values in
      let b : length (drop t xs) ≡ length xs - t = length-drop t xs in
      a ∙ ap (λ k. k - t * n) filled ∙ sub_times (length xs) t n enough ∙ ap (λ k. k * n) (sym b)
    where
      sub_times : (a b n : ℕ) → b ≤ a → a * n - b * n ≡ (a - b) * n
      sub_times a b n h =
          let e : (a - b) + b ≡ a = omega arith in
          let m : ((a - b) + b) * n ≡ (a - b) * n + b * n = add-mul (a - b) b n in
          let k : a * n ≡ (a - b) * n + b * n = ap (λ c. c * n) (sym e) ∙ m in
          omega arith

pub few-others : (t : ℕ) (xs : List ℕ) → length xs ≤ 16 → length (drop t xs) ≤ 16
few-others t xs few = omega (arith, length-drop t xs)
