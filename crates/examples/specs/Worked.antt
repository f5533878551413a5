-- The worked examples: a table of what the definitions give, with what they should give.
use Rattle.std.specs.Prelude.{◌≡◌, ℕ, false, cond, List, [], ◌∷◌, ◌++◌, map, replicate, Some, None, Ok, Err, Option, Result}
use Rattle.std.specs.List.{AllByRecursion}
use Rattle.field.specs.declared.gf256.Gf256.{Gf256}
use Rattle.field.specs.Gf256 as gf256
use Rattle.field.specs.Gf1024.{element, product}
use Rattle.refusal.specs.declared.Refusal.{Refusal}
use Rattle.refusal.specs.declared.Refusal.TheVariants.{WordCount}
use Rattle.refusal.specs.Refusals.{number_of}
use Rattle.cipher.specs.Drill.{drill_round}
use Rattle.cipher.specs.Feistel.{under, encrypted}
use Rattle.reader.specs.Card.{Fields}
use Rattle.checksum.specs.Checksum.{check_words_of}
use Rattle.reader.specs.Reading.{require, count_fits, fields_in}
use Rattle.reader.specs.Writing.{words_for, header_number}

-- what is computed, and what it should be
pub record Row : Type 0 where
  pub given : List ℕ
  pub wanted : List ℕ

abbrev row : List ℕ → List ℕ → Row
row given wanted = record { given = given; wanted = wanted }

-- the product of two elements of GF(256), by their values
abbrev times256 : ℕ → ℕ → ℕ
times256 a b = (gf256.product (gf256.element a) (gf256.element b)).value

-- the inverse of an element of GF(256), by its value, or nothing
abbrev inverse256 : ℕ → List ℕ
inverse256 a = values (gf256.inverse (gf256.element a))
  where
    values : Option Gf256 → List ℕ
    values None = []
    values (Some b) = b.value ∷ []

-- the product of two elements of GF(1024), by their values
abbrev times1024 : ℕ → ℕ → ℕ
times1024 a b = (product (element a) (element b)).value

-- the fields in the order of their bits, but for the value
abbrev field_numbers : Fields → List ℕ
field_numbers f =
    f.identifier ∷ cond f.extendable 1 0 ∷ f.exponent ∷ f.group ∷ f.group_threshold ∷ f.group_count ∷ f.member ∷ f.member_threshold ∷ []

abbrev some_fields : Fields
some_fields =
    record {
      identifier = 5;
      extendable = false;
      exponent = 1;
      group = 2;
      group_threshold = 2;
      group_count = 3;
      member = 4;
      member_threshold = 3;
      value = [];
    }

-- the number of the refusal that a count of words gets, or 0
abbrev refused_count : ℕ → ℕ
refused_count n = number (require (count_fits n) (WordCount n) (Ok tt))
  where
    number : Result (Unit {0}) Refusal → ℕ
    number (Ok _) = 0
    number (Err refusal) = number_of refusal

abbrev pub table : List Row
table =
    row (times256 0x57 0x83 ∷ []) (0xc1 ∷ [])
    ∷ row (inverse256 0x53) (0xca ∷ [])
    ∷ row (times1024 2 512 ∷ []) (9 ∷ [])
    ∷ row (times1024 64 64 ∷ []) (36 ∷ [])
    -- no string and no words
    ∷ row (check_words_of []) (14 ∷ 56 ∷ 65 ∷ [])
    -- the fields' words, and the words' fields
    ∷ row (words_for 4 (header_number some_fields)) (0 ∷ 161 ∷ 132 ∷ 578 ∷ [])
    ∷ row (field_numbers (fields_in (0 ∷ 161 ∷ 132 ∷ 578 ∷ []))) (field_numbers some_fields)
    ∷ row (map refused_count (20 ∷ 22 ∷ 33 ∷ 59 ∷ [])) (0 ∷ 0 ∷ 0 ∷ 0 ∷ [])
    ∷ row (map refused_count (19 ∷ 21 ∷ 60 ∷ [])) (4 ∷ 4 ∷ 4 ∷ [])
    -- the drill round without a passphrase
    ∷ row (encrypted (under drill_round [] 0 false 0) (replicate 8 0 ++ replicate 8 2)) (replicate 8 5 ++ replicate 8 1)
    ∷ []

abbrev pub WorkedExamples : Type 0
WorkedExamples = AllByRecursion (λ r. r.given ≡ r.wanted) table
