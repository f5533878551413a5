-- Values whose bytes are those of polynomials, one for each byte position.
use Rattle.std.proofs.Common.{◌≡◌, ℕ, zero, suc, ◌+◌, ◌-◌, ◌%◌, ◌<◌, ◌≤◌, List, [], ◌∷◌, map, length, get_or, sym, refl, ap, ◌∙◌, subst, ap₂, arith}
use native.Mathlib.Nat.{suc_inj}
use lib.ListN.{length-map}
use Rattle.std.specs.List.{range_with_len, AllByRecursion}
use Rattle.std.proofs.ByRecursion.{All-map, All-weaker}
use Rattle.std.proofs.lemmas.List.FromFn.{length-range_with_len, fill_by_all}
use Rattle.field.specs.declared.gf256.Gf256.{Gf256}
use Rattle.field.specs.Gf256.{element, sum, product, inverse}
use Rattle.field.specs.Polynomial.{value_at, power}
use Rattle.field.specs.Interpolation.{Distinct, xs_of, ThePolynomial}
use Rattle.field.specs.Gf256Laws.{laws, same, value-element}
use Rattle.field.proofs.FieldRing as Ring
use Rattle.field.proofs.PolynomialUnique as Unique
use Rattle.field.proofs.Lagrange as Lagrange
use Rattle.field.proofs.Lagrange.{In, of_in, all_in}
use Rattle.digest.specs.Keyed.{Bytes}
use Rattle.sharing.specs.Curves.{byte_at, Polynomials, Share, Shares, On}
use Rattle.sharing.specs.Values.{points_at, byte_through, value_through}

-- ---- lists
all_of_map : {A B : Type 0} (P : B → Type 0) (f : A → B) (xs : List A) → AllByRecursion P (map f xs) → AllByRecursion (λ a. P (f a)) xs
all_of_map P f [] all = tt
all_of_map P f (x ∷ xs) all = (all.0, all_of_map P f xs all.1)

map-map : {A B C : Type 0} (f : A → B) (g : B → C) (xs : List A) → map g (map f xs) ≡ map (λ a. g (f a)) xs
map-map f g [] = refl
map-map f g (x ∷ xs) = ap (λ l. g (f x) ∷ l) (map-map f g xs)

-- ---- places
apart : (a b : ℕ) → a < 256 → b < 256 → element a ≡ element b → a ≡ b
apart a b ha hb e = let q : a % 256 ≡ b % 256 = ap (λ p. p.value) e in omega arith

far : (z : ℕ) (zs : List ℕ) → z < 256 → AllByRecursion (λ y. y < 256) zs → AllByRecursion (λ y. y ≡ z → ⊥) zs → AllByRecursion (λ w. w ≡ element z → ⊥) (map element zs)
far z [] hz small all = tt
far z (y ∷ ys) hz small all = ((λ e. all.0 (apart y z small.0 hz e)), far z ys hz small.1 all.1)

pub distinct_elements : (zs : List ℕ) → AllByRecursion (λ z. z < 256) zs → Distinct zs → Distinct (map element zs)
distinct_elements [] small d = tt
distinct_elements (z ∷ zs) small d = (far z zs small.0 small.1 d.0, distinct_elements zs small.1 d.1)

-- ---- polynomials that agree at enough places
abbrev at : Gf256 → List Gf256 → Gf256
at = value_at (element 0) (element 1) sum product

columns_same : (t : ℕ) (zs : List ℕ) → t ≤ length zs → AllByRecursion (λ z. z < 256) zs → Distinct zs → (a b : List (List Gf256)) → length a ≡ length b
    → AllByRecursion (λ cs. length cs ≡ t) a → AllByRecursion (λ cs. length cs ≡ t) b → AllByRecursion (λ z. map (byte_at z) a ≡ map (byte_at z) b) zs → a ≡ b
columns_same t zs h small d [] [] n p q e = refl
columns_same t zs h small d [] (c ∷ b) n p q e = absurd (omega arith)
columns_same t zs h small d (c ∷ a) [] n p q e = absurd (omega arith)
columns_same t zs h small d (c ∷ a) (k ∷ b) n p q e =
    let m : length (map element zs) ≡ length zs = length-map zs element in
    ap₂ ◌∷◌
    (Unique.unique laws c k (map element zs) (p.0 ∙ sym q.0) (omega (arith, p.0)) (distinct_elements zs small d)
    (All-map (λ w. at w c ≡ at w k) element zs (All-weaker _ (λ z. at (element z) c ≡ at (element z) k) (λ z l. same _ _ (cc)) zs e)))
    (columns_same t zs h small d a b (suc_inj n) p.1 q.1 (All-weaker _ (λ z. map (byte_at z) a ≡ map (byte_at z) b) (λ z l. cc) zs e))

all_join : {A : Type 0} (P Q R : A → Type 0) → ((x : A) → P x → Q x → R x) → (xs : List A) → AllByRecursion P xs → AllByRecursion Q xs → AllByRecursion R xs
all_join P Q R f [] p q = tt
all_join P Q R f (x ∷ xs) p q = (f x p.0 q.0, all_join P Q R f xs p.1 q.1)

pub agree : (n t : ℕ) (f g : ℕ → List ℕ) (zs : List ℕ) → Polynomials n t f → Polynomials n t g → t ≤ length zs → AllByRecursion (λ z. z < 256) zs → Distinct zs
    → AllByRecursion (λ z. f z ≡ g z) zs → (x : ℕ) → x < 256 → f x ≡ g x
agree n t f g zs p q h small d e x hx =
    let same-columns = columns_same t zs h small d p.coefficients q.coefficients (p.positions ∙ sym q.positions) p.degrees q.degrees
    (all_join (λ z. f z ≡ g z) (λ z. z < 256) (λ z. map (byte_at z) p.coefficients ≡ map (byte_at z) q.coefficients)
    (λ z l s. sym (p.values z s) ∙ l ∙ q.values z s) zs e small) in
    p.values x hx ∙ ap (map (byte_at x)) same-columns ∙ sym (q.values x hx)

-- ---- their values
pub length-value : (n t : ℕ) (f : ℕ → List ℕ) → Polynomials n t f → (x : ℕ) → x < 256 → length (f x) ≡ n
length-value n t f p x hx = ap length (p.values x hx) ∙ length-map p.coefficients (byte_at x) ∙ p.positions

bytes-map : (x : ℕ) (css : List (List Gf256)) → Bytes (map (byte_at x) css)
bytes-map x [] = tt
bytes-map x (cs ∷ css) = ((at (element x) cs).bound, bytes-map x css)

pub bytes-value : (n t : ℕ) (f : ℕ → List ℕ) → Polynomials n t f → (x : ℕ) → x < 256 → Bytes (f x)
bytes-value n t f p x hx = subst Bytes (sym (p.values x hx)) (bytes-map x p.coefficients)

-- ---- more coefficients
at_zero : (x : Gf256) (cs : List Gf256) → at x (element 0 ∷ cs) ≡ at x cs
at_zero x cs = ap (λ y. sum y (at x cs)) (Ring.zero_times laws (power (element 1) product x (length cs))) ∙ Ring.zero_sum laws (at x cs)

pad : ℕ → List Gf256 → List Gf256
pad zero cs = cs
pad (suc m) cs = element 0 ∷ pad m cs

at-pad : (x : Gf256) (m : ℕ) (cs : List Gf256) → at x (pad m cs) ≡ at x cs
unfolding pad
at-pad x zero cs = refl
at-pad x (suc m) cs = at_zero x (pad m cs) ∙ at-pad x m cs

length-pad : (m : ℕ) (cs : List Gf256) → length (pad m cs) ≡ m + length cs
unfolding pad
length-pad zero cs = omega arith
length-pad (suc m) cs = let e : length (pad m cs) ≡ m + length cs = length-pad m cs in omega arith

pad_degrees : (m k t : ℕ) → m + k ≡ t → (css : List (List Gf256)) → AllByRecursion (λ cs. length cs ≡ k) css → AllByRecursion (λ cs. length cs ≡ t) (map (pad m) css)
pad_degrees m k t e [] all = tt
pad_degrees m k t e (cs ∷ css) all = (length-pad m cs ∙ ap (λ n. m + n) all.0 ∙ e, pad_degrees m k t e css all.1)

pad_values : (x m : ℕ) (css : List (List Gf256)) → map (byte_at x) css ≡ map (byte_at x) (map (pad m) css)
pad_values x m [] = refl
pad_values x m (cs ∷ css) = ap₂ ◌∷◌ (ap (λ y. y.value) (sym (at-pad (element x) m cs))) (pad_values x m css)

pub wider : (n k t : ℕ) (f : ℕ → List ℕ) → k ≤ t → Polynomials n k f → Polynomials n t f
wider n k t f h p =
    let e : (t - k) + k ≡ t = omega arith in
    record {
      coefficients = map (pad (t - k)) p.coefficients;
      positions = length-map p.coefficients (pad (t - k)) ∙ p.positions;
      degrees = pad_degrees (t - k) k t e p.coefficients p.degrees;
      values = λ x hx. p.values x hx ∙ pad_values x (t - k) p.coefficients;
    }

-- ---- one coefficient
single : (x c : Gf256) → at x (c ∷ []) ≡ c
single x c = laws.sum_zero (product c (element 1)) ∙ laws.product_one c

single_bytes : (x : ℕ) (s : List ℕ) → Bytes s → s ≡ map (byte_at x) (map (λ b. element b ∷ []) s)
single_bytes x [] h = refl
single_bytes x (b ∷ s) h = ap₂ ◌∷◌ (sym (ap (λ y. y.value) (single (element x) (element b)) ∙ value-element b h.0)) (single_bytes x s h.1)

one_each : (s : List ℕ) → AllByRecursion (λ (cs : List Gf256). length cs ≡ 1) (map (λ b. element b ∷ []) s)
one_each [] = tt
one_each (b ∷ s) = (refl, one_each s)

pub constant_polynomials : (s : List ℕ) (f : ℕ → List ℕ) → Bytes s → ((x : ℕ) → x < 256 → f x ≡ s) → Polynomials (length s) 1 f
constant_polynomials s f h same-all =
    record {
      coefficients = map (λ b. element b ∷ []) s;
      positions = length-map s (λ b. element b ∷ []);
      degrees = one_each s;
      values = λ x hx. same-all x hx ∙ single_bytes x s h;
    }

steady_columns : (x y : ℕ) (css : List (List Gf256)) → AllByRecursion (λ cs. length cs ≡ 1) css → map (byte_at x) css ≡ map (byte_at y) css
steady_columns x y [] all = refl
steady_columns x y ([] ∷ css) all = absurd (omega (arith, all.0))
steady_columns x y ((c ∷ []) ∷ css) all = ap₂ ◌∷◌ (ap (λ v. v.value) (single (element x) c ∙ sym (single (element y) c))) (steady_columns x y css all.1)
steady_columns x y ((c ∷ d ∷ cs) ∷ css) all = absurd (omega (arith, all.0))

pub steady : (n : ℕ) (f : ℕ → List ℕ) → Polynomials n 1 f → (x y : ℕ) → x < 256 → y < 256 → f x ≡ f y
steady n f p x y hx hy = p.values x hx ∙ steady_columns x y p.coefficients p.degrees ∙ sym (p.values y hy)

-- ---- the polynomials through shares
xs_points : (j : ℕ) (shares : List Share) → xs_of (points_at j shares) ≡ map element (map (λ s. s.x) shares)
xs_points j [] = refl
xs_points j (s ∷ shares) = ap (λ l. element s.x ∷ l) (xs_points j shares)

module _ (n : ℕ) (shares : List Share) (sound : Shares n shares) where
  pub points_distinct : (j : ℕ) → Distinct (xs_of (points_at j shares))
  points_distinct j =
      subst Distinct (sym (xs_points j shares))
      (distinct_elements (map (λ s. s.x) shares) (All-map (λ x. x < 256) (λ s. s.x) shares sound.places) sound.distinct)

  column : (j : ℕ) → (cs : List Gf256) × ThePolynomial (element 0) (element 1) sum product inverse (points_at j shares) cs
  column j = Lagrange.the-polynomial laws (points_at j shares) (points_distinct j)

  byte_value : (x j : ℕ) → byte_through shares x j ≡ byte_at x (column j).0
  unfolding byte_through
  byte_value x j = ap (λ v. v.value) ((column j).1.value (element x))

  column_degree : (j : ℕ) → length (column j).0 ≡ length shares
  column_degree j = (column j).1.degree ∙ length-map shares (λ s. record { x = element s.x; y = element (get_or s.value j 0) })

  all-degrees : (js : List ℕ) → AllByRecursion (λ cs. length cs ≡ length shares) (map (λ j. (column j).0) js)
  all-degrees [] = tt
  all-degrees (j ∷ js) = (column_degree j, all-degrees js)

  all-values : (x : ℕ) (js : List ℕ) → map (byte_through shares x) js ≡ map (byte_at x) (map (λ j. (column j).0) js)
  all-values x [] = refl
  all-values x (j ∷ js) = ap₂ ◌∷◌ (byte_value x j) (all-values x js)

  pub through-polynomials : Polynomials n (length shares) (value_through n shares)
  through-polynomials =
      record {
        coefficients = map (λ j. (column j).0) (range_with_len 0 n);
        positions = length-map (range_with_len 0 n) (λ j. (column j).0) ∙ length-range_with_len 0 n;
        degrees = all-degrees (range_with_len 0 n);
        values = λ x hx. all-values x (range_with_len 0 n);
      }

  bytes-at : (v : List ℕ) (j : ℕ) → Bytes v → get_or v j 0 < 256
  bytes-at [] j h = omega arith
  bytes-at (b ∷ v) zero h = h.0
  bytes-at (b ∷ v) (suc j) h = bytes-at v j h.1

  byte_on : (j : ℕ) (s : Share) → In s shares → byte_through shares s.x j ≡ get_or s.value j 0
  byte_on j s i =
      byte_value s.x j
      ∙ ap (λ v. v.value)
      (of_in (λ s. at (element s.x) (column j).0 ≡ element (get_or s.value j 0)) s shares
      (all_of_map (λ p. at p.x (column j).0 ≡ p.y) (λ s. record { x = element s.x; y = element (get_or s.value j 0) }) shares (column j).1.through) i)
      ∙ value-element (get_or s.value j 0) (bytes-at s.value j (of_in (λ s. Bytes s.value) s shares sound.bytes i))

  pub through-on : On (value_through n shares) shares
  through-on =
      all_in (λ s. value_through n shares s.x ≡ s.value) shares
      (λ s i. sym (fill_by_all (byte_through shares s.x) s.value n 0 (of_in (λ s. length s.value ≡ n) s shares sound.lengths i)
      (λ k h. sym (byte_on k s i))))
