-- What `scan` and `size` have before they walk: a list that is read, a checked store, and arrays that `automaton_table::build` may fill; filled they are what
-- the walks ask for. Assumes nothing.
use mathlib.Core.Path.{◌≡◌, sym, ◌∙◌}
use mathlib.Core.List.{List}
use Prim.Native.Nat.{ℕ, ◌+◌, ◌≤◌}
use native.Mathlib.Nat.{le_refl}
use native.Mathlib.Omega.{arith}
use lib.ListN.{length, replicate, length-replicate, get_or-replicate}
use Rattle.spec.specs.Bytes.{written}
use Rattle.spec.specs.Keywords.{flag_of, folded_keywords}
use Rattle.spec.specs.Store.{chunk_count}
use Rattle.spec.proofs.KeywordLaws.{keyword-front}
use Rattle.directory.specs.Chains.{Empty}
use Rattle.keywords.specs.declared.Keywords.{Keywords}
use Rattle.keywords.specs.Parsed.{parsed_of}
use Rattle.automaton.specs.Automaton.{sets_of, prefixes_of, table_of}
use Rattle.automaton_table.specs.Building.{CanMake}
use Rattle.chunkwalk.proofs.Equipping.{equip}
use Rattle.index_writer.specs.Layout.{Walks, CanMeasure, AllOdd}
use Rattle.scan.proofs.Checks.{Passed}

pub walks-read : {list : List ℕ} {words : Keywords} {store : List ℕ} {count : ℕ} → Passed list store
    → words ≡ parsed_of list → count ≡ chunk_count store → Walks list words store count
walks-read {list = list} p e c = record { reads = record { accepted = keyword-front list p.accepted; parsed = e }; checked = p.checked; counted = c }

-- An array is as long as it was made, and stays so. For any length: one that is written out would be counted, by `omega` above all.
pub made : (n x : ℕ) → n ≡ length (replicate n x)
made n x = sym (length-replicate {A = ℕ} n x)

pub made_kept : (n x : ℕ) (last : List ℕ) → length last ≡ length (replicate n x) → n ≡ length last
made_kept n x last e = made n x ∙ sym e

made-room : (m n x : ℕ) → m ≤ n → m ≤ length (replicate n x)
made-room m n x h = omega (arith, made n x)

kept-room : (n x : ℕ) (last : List ℕ) → length last ≡ length (replicate n x) → n ≤ length last
kept-room n x last e = omega (arith, made_kept n x last e)

log-room : 65536 ≤ 65536
log-room = omega arith

-- the table's array before it is filled has room for the store check's chains
table_none : (n : ℕ) → 65536 + 65000 ≤ n → Empty (replicate n 0)
table_none n h = record {
  long = made-room (65536 + 65000) n 0 h;
  none = λ i m. get_or-replicate {A = ℕ} n i 0 0 (omega arith);
}

pub table_empty : Empty (replicate 131328 0)
table_empty = table_none 131328 (omega arith)

module _ {list : List ℕ} {words : Keywords} {store : List ℕ} {count : ℕ} (w : Walks list words store count) where
  pub can-make : (room : List ℕ) → length room ≡ length (replicate {A = ℕ} 131328 0) → CanMake list words room (replicate 513 0) (replicate 8208 0)
  can-make room e = record {
    reads = w.reads;
    cells = kept-room 131328 0 room e;
    bits = made-room 513 513 0 (le_refl 513);
    lengths = made-room 8208 8208 0 (le_refl 8208);
  }

  measures : (room table ends₀ ends tails₀ tails log run1 run2 run3 marks : List ℕ) → CanMake list words room ends₀ tails₀
      → table ≡ written room (table_of (flag_of list) (folded_keywords list))
      → ends ≡ written ends₀ (sets_of (folded_keywords list))
      → tails ≡ written tails₀ (prefixes_of (folded_keywords list))
      → 65536 ≤ length log → 16384 ≤ length run1 → 16384 ≤ length run2 → 16384 ≤ length run3 → 65000 ≤ length marks
      → CanMeasure list words store count table ends tails log run1 run2 run3 marks
  measures room table ends₀ ends tails₀ tails log run1 run2 run3 marks m e f g k k1 k2 k3 long = record {
    walks = w;
    equipped = equip list words w.reads room table ends₀ ends tails₀ tails log run1 run2 run3
        m.cells m.bits m.lengths e f g k k1 k2 k3;
    long = long;
  }

  pub can-measure : (room table ends tails : List ℕ) (mark : ℕ) → length room ≡ length (replicate {A = ℕ} 131328 0)
      → table ≡ written room (table_of (flag_of list) (folded_keywords list))
      → ends ≡ written (replicate 513 0) (sets_of (folded_keywords list))
      → tails ≡ written (replicate 8208 0) (prefixes_of (folded_keywords list))
      → CanMeasure list words store count table ends tails
      (replicate 65536 0) (replicate 16384 0) (replicate 16384 0) (replicate 16384 0) (replicate 65000 mark)
  can-measure room table ends tails mark h e f g =
      measures room table (replicate 513 0) ends (replicate 8208 0) tails
      (replicate 65536 0) (replicate 16384 0) (replicate 16384 0) (replicate 16384 0) (replicate 65000 mark) (can-make room h) e f g
      (made-room 65536 65536 0 log-room) (made-room 16384 16384 0 (le_refl 16384)) (made-room 16384 16384 0 (le_refl 16384))
      (made-room 16384 16384 0 (le_refl 16384)) (made-room 65000 65000 mark (le_refl 65000))

-- the marks before anything is measured have every chunk walked
pub odd-ones : (n : ℕ) → AllOdd (replicate n 1)
odd-ones n j h = rw (get_or-replicate {A = ℕ} n j 1 0 (omega (arith, made n 1)))
