-- What shares say of the curves through them.
use Rattle.std.proofs.Common.{◌≡◌, ℕ, zero, suc, ◌+◌, ◌-◌, ◌*◌, ◌<◌, ◌≤◌, min, Bool, true, false, cond, leb, ◌⊎◌, List, [], ◌∷◌, ◌++◌, map, length, take, drop, replicate, sym, refl, ap, ◌∙◌, subst, ap₂, inl, inr, le_of_eq, arith, lit<, length-append, length-drop, length-take}
use lib.ListN.{length-map, length-replicate}
use Rattle.std.specs.List.{range_with_len, AllByRecursion}
use Rattle.std.proofs.ByRecursion.{All-map, All-weaker, All-append, All-take, All-drop}
use Rattle.std.proofs.lemmas.List.{take-append-drop, take_at, drop_at}
use Rattle.std.proofs.lemmas.List.FromFn.{length-range_with_len}
use Rattle.std.proofs.lemmas.Bool.{le-leb}
use Rattle.std.proofs.lemmas.Bool.Decides.{nat_tests}
use Rattle.field.specs.Interpolation.{Distinct}
use Rattle.digest.specs.Keyed.{Bytes}
use Rattle.sharing.specs.Curves.{Polynomials, Curve, Share, Shares, On, OnCurve, OneCurve, OneCurveOfSecret, SomeCurve, CurveLaws}
use Rattle.sharing.specs.Values.{shares_of, value_through, Checked, chosen_shares, dealt_value, DealtCurve}
use Rattle.sharing.proofs.PositionPolynomials as Positions
use Rattle.sharing.proofs.FlatShares as Flat
pub use Rattle.sharing.proofs.FlatShares.{bytes_take, bytes_drop}
use Rattle.sharing.proofs.Places.{distinct_map_take}

-- ---- lists
abbrev places : List Share → List ℕ
places shares = map (λ s. s.x) shares

meet : (f g : ℕ → List ℕ) (shares : List Share) → On f shares → On g shares → AllByRecursion (λ z. f z ≡ g z) (places shares)
meet f g [] a b = tt
meet f g (s ∷ shares) a b = (a.0 ∙ sym b.0, meet f g shares a.1 b.1)

small_places : (shares : List Share) → AllByRecursion (λ s. s.x < 256) shares → AllByRecursion (λ z. z < 256) (places shares)
small_places shares small = All-map (λ z. z < 256) (λ s. s.x) shares small

pub bytes-append : (xs ys : List ℕ) → Bytes xs → Bytes ys → Bytes (xs ++ ys)
bytes-append [] ys a b = b
bytes-append (x ∷ xs) ys a b = (a.0, bytes-append xs ys a.1 b)

bytes-zeros : (n : ℕ) → Bytes (replicate n 0)
bytes-zeros zero = tt
bytes-zeros (suc n) = (lit< tt, bytes-zeros n)

lt_leb_false : (a b : ℕ) → b < a → leb a b ≡ false
lt_leb_false a b h = grind (arith, nat_tests)

-- ---- numbers in a row
pub all-counting-low : (m a k : ℕ) → a + k ≤ m → AllByRecursion (λ x. x < m) (range_with_len a k)
all-counting-low m a zero h = tt
all-counting-low m a (suc k) h = (omega arith, all-counting-low m (a + 1) k (omega arith))

all-counting-above : (z a k : ℕ) → z < a → AllByRecursion (λ y. y ≡ z → ⊥) (range_with_len a k)
all-counting-above z a zero h = tt
all-counting-above z a (suc k) h = ((λ e. omega arith), all-counting-above z (a + 1) k (omega arith))

pub distinct_counting : (a k : ℕ) → Distinct (range_with_len a k)
distinct_counting a zero = tt
distinct_counting a (suc k) = (all-counting-above a (a + 1) k (omega arith), distinct_counting (a + 1) k)

pub distinct_ends : (xs : List ℕ) → Distinct xs → AllByRecursion (λ x. x < 254) xs → Distinct (xs ++ (254 ∷ 255 ∷ []))
distinct_ends [] d low = (((λ e. omega arith), tt), (tt, tt))
distinct_ends (x ∷ xs) d low =
    let h = low.0 in
    (All-append (λ y. y ≡ x → ⊥) xs (254 ∷ 255 ∷ []) d.0 ((λ e. omega arith), ((λ e. omega arith), tt)), distinct_ends xs d.1 low.1)

-- ---- a curve's values
module _ (keyed : List ℕ → List ℕ → List ℕ) where
  above_one : (t : ℕ) → 1 ≤ t → (t ≡ 1) ⊎ (2 ≤ t)
  above_one t h = grind arith

  pub curve_polynomials : (t : ℕ) (secret : List ℕ) (f : ℕ → List ℕ) → Curve keyed t secret f → Polynomials (length secret) t f
  curve_polynomials t secret f c =
      elim (above_one t c.least) [
        | inl one ↦ subst (λ k. Polynomials (length secret) k f) (sym one) (Positions.constant_polynomials secret f c.bytes (c.constant one))
        | inr more ↦ c.polynomials more
      ]

  pub curve_secret : (t : ℕ) (secret : List ℕ) (f : ℕ → List ℕ) → Curve keyed t secret f → f 255 ≡ secret
  curve_secret t secret f c = elim (above_one t c.least) [ inl one ↦ c.constant one 255 (lit< tt) | inr more ↦ c.at255 more ]

  -- polynomials of degree below t that are the secret at 255, and D and R at 254
  pub make_curve : (t : ℕ) (secret : List ℕ) (f : ℕ → List ℕ) → 1 ≤ t → Bytes secret → Polynomials (length secret) t f → f 255 ≡ secret
      → (2 ≤ t → (r : List ℕ) × (length r ≡ length secret - 4) × (f 254 ≡ take 4 (keyed r secret) ++ r)) → Curve keyed t secret f
  make_curve t secret f least bytes p is check =
      record {
        least = least;
        bytes = bytes;
        constant = λ one x hx. Positions.steady (length secret) f (subst (λ k. Polynomials (length secret) k f) one p) x 255 hx (lit< tt) ∙ is;
        polynomials = λ _. p;
        at255 = λ _. is;
        at254 = check;
      }

  -- a share has as many bytes as the secret
  secret_length : (t n : ℕ) (shares : List Share) (secret : List ℕ) (f : ℕ → List ℕ) → Shares n shares → 1 ≤ length shares
      → Curve keyed t secret f → On f shares → length secret ≡ n
  secret_length t n [] secret f sound some c on = absurd (omega arith)
  secret_length t n (s ∷ shares) secret f sound some c on =
      sym (Positions.length-value (length secret) t f (curve_polynomials t secret f c) s.x sound.places.0) ∙ ap length on.0 ∙ sound.lengths.0

  -- ---- at most one curve
  pub one_curve : OneCurve keyed
  one_curve t n shares sound enough secret another value other c on d on' =
      let k : length (places shares) ≡ length shares = length-map shares (λ s. s.x) in
      let some : 1 ≤ length shares = omega (arith, c.least) in
      let m : length secret ≡ length another = secret_length t n shares secret value sound some c on ∙ sym (secret_length t n shares another other sound some d on') in
      let all_same : (x : ℕ) → x < 256 → value x ≡ other x =
      Positions.agree (length another) t value other (places shares)
      (subst (λ l. Polynomials l t value) m (curve_polynomials t secret value c)) (curve_polynomials t another other d)
      (omega arith) (small_places shares sound.places) sound.distinct (meet value other shares on on') in
      (sym (curve_secret t secret value c) ∙ all_same 255 (lit< tt) ∙ curve_secret t another other d, all_same)

  pub one_curve_of_secret : OneCurveOfSecret keyed
  one_curve_of_secret t n shares sound away enough secret value other c on d on' =
      let k : length (places shares) ≡ length shares = length-map shares (λ s. s.x) in
      Positions.agree (length secret) t value other (255 ∷ places shares) (curve_polynomials t secret value c) (curve_polynomials t secret other d)
      (omega arith) (lit< tt, small_places shares sound.places) (All-map (λ z. z ≡ 255 → ⊥) (λ s. s.x) shares away, sound.distinct)
      (curve_secret t secret value c ∙ sym (curve_secret t secret other d), meet value other shares on on')

  -- ---- some curve
  module _ (four : (key message : List ℕ) → 4 ≤ length (keyed key message))
      (digest-bytes : (key message : List ℕ) → Bytes key → Bytes message → Bytes (keyed key message)) where
    pub length-checked : (r secret : List ℕ) → 4 ≤ length secret → length r ≡ length secret - 4 → length (take 4 (keyed r secret) ++ r) ≡ length secret
    length-checked r secret h n =
        let f = four r secret in
        let a : length (take 4 (keyed r secret) ++ r) ≡ length (take 4 (keyed r secret)) + length r = length-append (take 4 (keyed r secret)) r in
        let b : length (take 4 (keyed r secret)) ≡ min 4 (length (keyed r secret)) = length-take 4 (keyed r secret) in
        omega arith

    bytes-checked : (r secret : List ℕ) → Bytes r → Bytes secret → Bytes (take 4 (keyed r secret) ++ r)
    bytes-checked r secret hr hs = bytes-append (take 4 (keyed r secret)) r (bytes_take 4 (keyed r secret) (digest-bytes r secret hr hs)) hr

    -- the shares, then the value at 254 with the key r, then the secret
    with_ends : List Share → List ℕ → List ℕ → List Share
    with_ends shares r secret = shares ++ (record { x = 254; value = take 4 (keyed r secret) ++ r } ∷ record { x = 255; value = secret } ∷ [])

    places-ends : (shares : List Share) (r secret : List ℕ) → places (with_ends shares r secret) ≡ places shares ++ (254 ∷ 255 ∷ [])
    unfolding with_ends
    places-ends [] r secret = refl
    places-ends (s ∷ shares) r secret = ap (λ l. s.x ∷ l) (places-ends shares r secret)

    sound_ends : (shares : List Share) (r secret : List ℕ) → Bytes secret → 4 ≤ length secret → Bytes r → length r ≡ length secret - 4
        → Shares (length secret) shares → AllByRecursion (λ s. s.x < 254) shares → Shares (length secret) (with_ends shares r secret)
    unfolding with_ends
    sound_ends shares r secret hs h hr n sound low =
        record {
          distinct = subst Distinct (sym (places-ends shares r secret)) (distinct_ends (places shares) sound.distinct (All-map (λ z. z < 254) (λ s. s.x) shares low));
          places = All-append (λ s. s.x < 256) shares _ sound.places (lit< tt, (lit< tt, tt));
          lengths = All-append (λ s. length s.value ≡ length secret) shares _ sound.lengths (length-checked r secret h n, (refl, tt));
          bytes = All-append (λ s. Bytes s.value) shares _ sound.bytes (bytes-checked r secret hr hs, (hs, tt));
        }

    on_left : (f : ℕ → List ℕ) (shares more : List Share) → On f (shares ++ more) → On f shares
    on_left f [] more on = tt
    on_left f (s ∷ shares) more on = (on.0, on_left f shares more on.1)

    on_right : (f : ℕ → List ℕ) (shares more : List Share) → On f (shares ++ more) → On f more
    on_right f [] more on = on
    on_right f (s ∷ shares) more on = on_right f shares more on.1

    -- the curve that shares, a key R and the secret fix
    fixed : (t : ℕ) (shares : List Share) (r secret : List ℕ) → Bytes secret → 4 ≤ length secret → Bytes r → length r ≡ length secret - 4
        → Shares (length secret) shares → AllByRecursion (λ s. s.x < 254) shares → length shares + 2 ≤ t
        → Curve keyed t secret (value_through (length secret) (with_ends shares r secret)) × On (value_through (length secret) (with_ends shares r secret)) shares
    unfolding with_ends
    fixed t shares r secret hs h hr n sound low few =
        let all = with_ends shares r secret in
        let ok = sound_ends shares r secret hs h hr n sound low in
        let f = value_through (length secret) all in
        let on : On f all = Positions.through-on (length secret) all ok in
        let ends = on_right f shares (record { x = 254; value = take 4 (keyed r secret) ++ r } ∷ record { x = 255; value = secret } ∷ []) on in
        let k : length all ≡ length shares + 2 = length-append shares (record { x = 254; value = take 4 (keyed r secret) ++ r } ∷ record { x = 255; value = secret } ∷ []) in (
          make_curve t secret f (omega arith) hs
              (Positions.wider (length secret) (length all) t f (omega arith) (Positions.through-polynomials (length secret) all ok)) ends.1.0 (λ _. (r, n, ends.0)),
          on_left f shares (record { x = 254; value = take 4 (keyed r secret) ++ r } ∷ record { x = 255; value = secret } ∷ []) on,
        )

    pub some_curve : SomeCurve keyed
    some_curve t secret shares hs h sound low few =
        let r = replicate (length secret - 4) 0 in
        let c = fixed t shares r secret hs h (bytes-zeros (length secret - 4)) (length-replicate (length secret - 4) 0) sound low few in
        (value_through (length secret) (with_ends shares r secret), c.0, c.1)

    pub curve_laws : CurveLaws keyed
    curve_laws = record { one_curve = one_curve; one_curve_of_secret = one_curve_of_secret; some_curve = some_curve }

    -- ---- the curve that a dealer's draws fix
    pub dealt_curve : DealtCurve keyed
    unfolding with_ends
    dealt_curve t secret drawn least most hs h hd n =
        elim (above_one t least) [
          | inl one ↦
              let low : leb t 1 ≡ true = le-leb t 1 (le_of_eq one) in
              let none : t - 2 ≡ 0 = omega arith in (
                record {
                  least = least;
                  bytes = hs;
                  constant = λ _ x hx. ap (λ b. cond b secret (value_through (length secret) (chosen_shares keyed t secret drawn) x)) low;
                  polynomials = λ two. absurd (omega arith);
                  at255 = λ two. absurd (omega arith);
                  at254 = λ two. absurd (omega arith);
                },
                subst (λ k. On (dealt_value keyed t secret drawn) (shares_of (length secret) (range_with_len 0 k) drawn)) (sym none) tt,
              )
          | inr two ↦
              let high : leb t 1 ≡ false = lt_leb_false t 1 two in
              let m : length drawn ≡ (t - 2) * length secret + (length secret - 4) = n ∙ ap (λ b. cond b 0 ((t - 2) * length secret + (length secret - 4))) high in
              let r = drop ((t - 2) * length secret) drawn in
              let lr : length r ≡ length secret - 4 = omega (arith, length-drop ((t - 2) * length secret) drawn) in
              let k : length (range_with_len 0 (t - 2)) ≡ t - 2 = length-range_with_len 0 (t - 2) in
              let few : length (range_with_len 0 (t - 2)) * length secret ≤ length drawn = subst (λ k. k * length secret ≤ length drawn) (sym k) (omega arith) in
              let low = all-counting-low 254 0 (t - 2) (omega arith) in
              let sound = Flat.sound_shares (length secret) (range_with_len 0 (t - 2)) drawn (distinct_counting 0 (t - 2))
              (All-weaker (λ x. x < 254) (λ x. x < 256) (λ x l. omega arith) (range_with_len 0 (t - 2)) low) hd few in
              let size : length (shares_of (length secret) (range_with_len 0 (t - 2)) drawn) + 2 ≤ t = omega (arith, Flat.length-shares (length secret) (range_with_len 0 (t - 2)) drawn) in
              let c = fixed t (shares_of (length secret) (range_with_len 0 (t - 2)) drawn) r secret hs h (bytes_drop ((t - 2) * length secret) drawn hd) lr sound
              (Flat.shares-places (λ x. x < 254) (length secret) (range_with_len 0 (t - 2)) drawn low) size in
              let is : (b : Bool) → b ≡ false → (P : (ℕ → List ℕ) → Type 0) → P (value_through (length secret) (chosen_shares keyed t secret drawn))
              → P (λ x. cond b secret (value_through (length secret) (chosen_shares keyed t secret drawn) x)) =
              λ b e P p. subst (λ b. P (λ x. cond b secret (value_through (length secret) (chosen_shares keyed t secret drawn) x))) (sym e) p in
              (is (leb t 1) high (Curve keyed t secret) c.0, is (leb t 1) high (λ f. On f (shares_of (length secret) (range_with_len 0 (t - 2)) drawn)) c.1)
        ]

  -- ---- t shares or more
  -- the polynomials through the first t shares
  abbrev pub through : ℕ → ℕ → List Share → ℕ → List ℕ
  through n t shares = value_through n (take t shares)

  module _ (n t : ℕ) (shares : List Share) (sound : Shares n shares) (least : 1 ≤ t) (enough : t ≤ length shares) where
    sound_base : Shares n (take t shares)
    sound_base =
        record {
          distinct = distinct_map_take (λ s. s.x) t shares sound.distinct;
          places = All-take (λ s. s.x < 256) t shares sound.places;
          lengths = All-take (λ s. length s.value ≡ n) t shares sound.lengths;
          bytes = All-take (λ s. Bytes s.value) t shares sound.bytes;
        }

    base-length : length (take t shares) ≡ t
    base-length = omega (arith, length-take t shares)

    base-polynomials : Polynomials n t (through n t shares)
    base-polynomials = subst (λ k. Polynomials n k (through n t shares)) base-length (Positions.through-polynomials n (take t shares) sound_base)

    base_on : On (through n t shares) (take t shares)
    base_on = Positions.through-on n (take t shares) sound_base

    pub on_curve : On (through n t shares) (drop t shares) → (2 ≤ t → Checked keyed n (through n t shares 254) (through n t shares 255))
        → OnCurve keyed t (through n t shares 255) shares
    on_curve surplus check =
        let f = through n t shares in
        let ls : length (f 255) ≡ n = Positions.length-value n t f base-polynomials 255 (lit< tt) in
        let lc : length (f 254) ≡ n = Positions.length-value n t f base-polynomials 254 (lit< tt) in (
          f,
          make_curve t (f 255) f least (Positions.bytes-value n t f base-polynomials 255 (lit< tt)) (subst (λ k. Polynomials k t f) (sym ls) base-polynomials) refl
              (λ two. (drop 4 (f 254), length-drop 4 (f 254) ∙ ap (λ k. k - 4) (lc ∙ sym ls), sym (take-append-drop 4 (f 254)) ∙ ap (λ l. l ++ drop 4 (f 254)) (check two).1)),
          subst (On f) (take-append-drop t shares) (All-append (λ s. f s.x ≡ s.value) (take t shares) (drop t shares) base_on surplus),
        )

    pub the-curve : (secret : List ℕ) (value : ℕ → List ℕ) → Curve keyed t secret value → On value shares
        → (x : ℕ) → x < 256 → through n t shares x ≡ value x
    the-curve secret value c on =
        let f = through n t shares in
        let m : length secret ≡ n = secret_length t n shares secret value sound (omega arith) c on in
        let k : length (places (take t shares)) ≡ length (take t shares) = length-map (take t shares) (λ s. s.x) in
        let b : length (take t shares) ≡ t = base-length in
        Positions.agree n t f value (places (take t shares)) base-polynomials (subst (λ l. Polynomials l t value) m (curve_polynomials t secret value c))
        (omega arith) (small_places (take t shares) sound_base.places) sound_base.distinct
        (meet f value (take t shares) base_on (All-take (λ s. value s.x ≡ s.value) t shares on))

    pub off_curve : ((key message : List ℕ) → 4 ≤ length (keyed key message)) → (secret : List ℕ) → OnCurve keyed t secret shares
        → On (through n t shares) (drop t shares) × (2 ≤ t → Checked keyed n (through n t shares 254) (through n t shares 255)) × (secret ≡ through n t shares 255)
    off_curve four secret (value, c, on) =
        let f = through n t shares in
        let is = the-curve secret value c on in
        let m : length secret ≡ n = secret_length t n shares secret value sound (omega arith) c on in
        let s255 : f 255 ≡ secret = is 255 (lit< tt) ∙ curve_secret t secret value c in (
          all-join-on f value (drop t shares) (All-drop (λ s. s.x < 256) t shares sound.places) (All-drop (λ s. value s.x ≡ s.value) t shares on) is,
          λ two.
              let r = c.at254 two in
              let whole : f 254 ≡ take 4 (keyed r.0 secret) ++ r.0 = is 254 (lit< tt) ∙ r.2 in
              let big = four r.0 secret in
              let l4 : length (take 4 (keyed r.0 secret)) ≡ 4 = omega (arith, length-take 4 (keyed r.0 secret)) in
              let lf : length (f 254) ≡ n = Positions.length-value n t f base-polynomials 254 (lit< tt) in
              let la : length (take 4 (keyed r.0 secret) ++ r.0) ≡ length (take 4 (keyed r.0 secret)) + length r.0 = length-append (take 4 (keyed r.0 secret)) r.0 in
              let lw : length (f 254) ≡ length (take 4 (keyed r.0 secret) ++ r.0) = ap length whole in
              let front : take 4 (f 254) ≡ take 4 (keyed r.0 secret) = ap (take 4) whole ∙ take_at (take 4 (keyed r.0 secret)) r.0 4 l4 in
              let key : drop 4 (f 254) ≡ r.0 = ap (drop 4) whole ∙ drop_at (take 4 (keyed r.0 secret)) r.0 4 l4 in
              (omega arith, front ∙ ap₂ (λ k s. take 4 (keyed k s)) (sym key) (sym s255)),
          sym s255,
        )
      where
        all-join-on : (f g : ℕ → List ℕ) (l : List Share) → AllByRecursion (λ s. s.x < 256) l → On g l → ((x : ℕ) → x < 256 → f x ≡ g x) → On f l
        all-join-on f g [] small on is = tt
        all-join-on f g (s ∷ l) small on is = (is s.x small.0 ∙ on.0, all-join-on f g l small.1 on.1 is)
