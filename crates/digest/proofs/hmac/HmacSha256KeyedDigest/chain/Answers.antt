-- No digest, or the chain on words.
use Rattle.std.proofs.Common.{◌≡◌, ℕ, List, ◌++◌, length, take, drop, replicate, sym, ap, ◌∙◌, ap₂, arith}
use Rattle.std.proofs.lemmas.List.{take-append-drop, length-take-le}
use Rattle.digest.specs.Keyed.{last_link, chain_total, xors}
use Rattle.digest.specs.Sha256.{bytes_of, words_of, sha256}
use Rattle.digest.specs.Hmac.{hmac}
use Rattle.digest.specs.Parts.{next_link}
use Rattle.digest.proofs.Chains.{link_none, total_none}
use Rattle.digest.proofs.WordChains.{last_words, total_words}
use Rattle.digest.proofs.hmac.HmacSha256KeyedDigest.chain.Goals as goal

pub returns-then-count-gt0-clause-last : goal.returns-then-count-gt0-clause-last
returns-then-count-gt0-clause-last c =
    let link : List ℕ = c.args.link.now in
    let n : ℕ = c.args.count in
    let u : List ℕ = take 32 link in
    let long : length u ≡ 32 = length-take-le 32 link c.in_ok-check_space.ensures.fits in
    ap (λ x. x ++ drop 32 link)
    (c.extend.ensures.last ∙ ap₂ (λ i o. bytes_of (last_link (next_link i o) (words_of 8 u) n)) c.of_key.ensures.inner c.of_key.ensures.outer ∙ sym (last_words c.args.key.now u long n c.if-count-gt0.true))

pub returns-then-count-gt0-clause-sum : goal.returns-then-count-gt0-clause-sum
returns-then-count-gt0-clause-sum c =
    let link : List ℕ = c.args.link.now in
    let total : List ℕ = c.args.total.now in
    let n : ℕ = c.args.count in
    let u : List ℕ = take 32 link in
    let long : length u ≡ 32 = length-take-le 32 link c.in_ok-check_space.ensures.fits in
    let long2 : length (take 32 total) ≡ 32 = length-take-le 32 total c.in_ok-check_space-2.ensures.fits in
    ap (λ x. x ++ drop 32 total)
    (c.extend.ensures.sum ∙ ap₂ (λ i o. xors (take 32 total) (bytes_of (chain_total (next_link i o) (words_of 8 u) (replicate 8 0) n))) c.of_key.ensures.inner c.of_key.ensures.outer
    ∙ sym (total_words c.args.key.now u long (take 32 total) long2 n))

pub returns-else-count-gt0-clause-last : goal.returns-else-count-gt0-clause-last
returns-else-count-gt0-clause-last c =
    let f : List ℕ → List ℕ = hmac sha256 c.args.key.now in
    let link : List ℕ = c.args.link.now in
    let none : c.args.count ≡ 0 = omega (arith, c.if-count-gt0.false) in
    sym (ap (λ x. x ++ drop 32 link) (ap (last_link f (take 32 link)) none ∙ link_none f (take 32 link)) ∙ take-append-drop 32 link)

pub returns-else-count-gt0-clause-sum : goal.returns-else-count-gt0-clause-sum
returns-else-count-gt0-clause-sum c =
    let f : List ℕ → List ℕ = hmac sha256 c.args.key.now in
    let link : List ℕ = c.args.link.now in
    let total : List ℕ = c.args.total.now in
    let none : c.args.count ≡ 0 = omega (arith, c.if-count-gt0.false) in
    sym (ap (λ x. x ++ drop 32 total) (ap (chain_total f (take 32 link) (take 32 total)) none ∙ total_none f (take 32 link) (take 32 total)) ∙ take-append-drop 32 total)
