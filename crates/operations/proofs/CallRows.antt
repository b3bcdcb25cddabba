-- Call's table of refusals: one word of the jump table is enough, what holds where a call is done, and what a call gives.
-- Assumes nothing.
use Prim.Native.Nat.{ℕ, suc, ◌+◌, ◌-◌, ◌<◌, ◌≤◌}
use mathlib.Core.Path.{◌≡◌, refl, sym, ◌∙◌}
use mathlib.Core.Bool.{true, false, not, ◌&&◌}
use mathlib.Core.List.{List}
use native.Mathlib.Omega.{arith}
use lib.ListN.{length, get_or, length-replicate, get_or-replicate}
use lib.Dec.{eqb, leb, ltb}
use borrow.Author.Tests.{eq-eqb, ne_eqb, lt-ltb, le-ltb, ltb-false, leb-false}
use Rattle.rules.specs.declared.RamByte.{RamByte}
use Rattle.rules.specs.declared.FlashWord.{FlashWord}
use Rattle.rules.specs.declared.Range.{Range}
use Rattle.rules.specs.declared.State.{State}
use Rattle.rules.specs.declared.Operation.TheVariants.{Call}
use Rattle.std.specs.Prelude.{Ok, Err}
use Rattle.rules.specs.declared.Refusal.TheVariants.{SiteOutside, TargetOutside, PastTables, BadEntry, PointerOutside, PassesTop}
use Rattle.rules.specs.Answers.{give}
use Rattle.rules.specs.Memory.{ram_bytes}
use Rattle.rules.specs.Code.{table_words, flash_word, range_of, in_range, is_local, table_word, called_domain, good_entry, good_site}
use Rattle.rules.specs.State.{good_state}
use Rattle.rules.specs.Call.{frame_bytes, frame_of, pointer_outside, is_cross, call_rows, called, pushed}
use Rattle.rules.specs.Operations.{lending, wrong_lent, call_of}
use Rattle.laws.proofs.Tests.{by_test, right_false}
use Rattle.laws.proofs.Rows.{row_passed}
use Rattle.operations.specs.CallRows.{table_of, local_rows, local_given, cross_rows, cross_given, word_rows}

-- ---- a table that has one word everywhere

table_of-length : (word : ℕ) → length (table_of word) ≡ table_words
unfolding table_of
table_of-length word = length-replicate table_words word

pub table_of-lent : (word : ℕ) (t site : FlashWord) (p : RamByte) → wrong_lent (lending (table_of word)) (Call t site p) ≡ false
table_of-lent word t site p = rw (eq-eqb (length (table_of word)) table_words (table_of-length word)) refl

pub table_of_at : (word i : ℕ) → i < table_words → get_or (table_of word) i 0 ≡ word
unfolding table_of
table_of_at word i within = get_or-replicate table_words i word 0 within

-- ---- an entry e and the code range r of its domain, as the code reads them

module _ (s : State) (word : ℕ) (t e : FlashWord) (within : table_word s.config t < table_words) (is : e ≡ flash_word word) where
  pub zero_entry : e.0 ≡ 0 → good_entry s.config (table_of word) t ≡ false
  zero_entry h = rw (table_of_at word (table_word s.config t) within, eq-eqb word 0 (rw is at h))

  module _ (r : Range) (of : r ≡ range_of s.config (called_domain s.config t)) where
    pub entry_outside : in_range r e ≡ false → good_entry s.config (table_of word) t ≡ false
    entry_outside h = rw (table_of_at word (table_word s.config t) within) (right_false (not (eqb word 0)) _ (rw (is, of) at h))

    pub good_entry_lem : (e.0 ≡ 0 → ⊥) → in_range r e ≡ true → good_entry s.config (table_of word) t ≡ true
    good_entry_lem n h = rw (table_of_at word (table_word s.config t) within, ne_eqb word 0 (rw is at n)) (rw (is, of) at h)

-- ---- whether n bytes fit below top

module _ (s : State) (n : ℕ) where
  pub passes_top : s.config.top.0 - s.safepointer.0 < n → ltb s.config.top.0 (s.safepointer.0 + n) ≡ true
  passes_top h = lt-ltb s.config.top.0 (s.safepointer.0 + n) (omega arith)

  pub fits_below : suc n ≤ s.config.top.0 - s.safepointer.0 → ltb s.config.top.0 (s.safepointer.0 + suc n) ≡ false
  fits_below h = le-ltb s.config.top.0 (s.safepointer.0 + suc n) (omega arith)

-- ---- the rows below that of every call

module _ (s : State) (table : List ℕ) (t site : FlashWord) (p : RamByte) (from : good_site s.config s.domain site ≡ true) where
  pub local_rest : t.0 < s.config.jt.0 → local_rows s t ≡ call_rows s table t site p
  local_rest h = rw (from, lt-ltb t.0 s.config.jt.0 h)

  -- a table with this word at the target's offset
  module _ (word : ℕ) (reads : s.config.jt.0 ≤ t.0 → table_word s.config t < table_words → get_or table (table_word s.config t) 0 ≡ word) where
    pub cross_rest : s.config.jt.0 ≤ t.0 → cross_rows s word t p ≡ call_rows s table t site p
    cross_rest h =
        by_test (leb table_words (table_word s.config t)) (λ l. rw (from, le-ltb t.0 s.config.jt.0 h, l))
        (λ l. rw (from, le-ltb t.0 s.config.jt.0 h, l, reads h (leb-false table_words (table_word s.config t) l)))

-- ---- where a call is done

pub record CallDone (s : State) (t site : FlashWord) : Type 0 where
  pub within : (is_cross s t && leb table_words (table_word s.config t)) ≡ false
  pub fits : s.safepointer.0 + length (frame_bytes (frame_of s t site)) ≤ s.config.top.0

pub call_done : (s : State) (table : List ℕ) (t site : FlashWord) (p : RamByte) (v : ℕ) → call_rows s table t site p ≡ Ok v → CallDone s t site
call_done s table t site p v h =
    let (from, a) = row_passed (not (good_site s.config s.domain site)) SiteOutside _ v h in
    let (to, b) = row_passed (is_local s.config t && not (in_range (range_of s.config s.domain) t)) TargetOutside _ v a in
    let (within, c) = row_passed (is_cross s t && leb table_words (table_word s.config t)) PastTables _ v b in
    let (entry, d) = row_passed (is_cross s t && not (good_entry s.config table t)) BadEntry _ v c in
    let (pointer, e) = row_passed (is_cross s t && pointer_outside s p) PointerOutside _ v d in
    let (fits, last) =
    row_passed (ltb s.config.top.0 (s.safepointer.0 + length (frame_bytes (frame_of s t site)))) PassesTop _ v e
    in
    record {
      within = within;
      fits = ltb-false s.config.top.0 (s.safepointer.0 + length (frame_bytes (frame_of s t site))) fits;
    }

-- ---- one word of the table is enough

-- what a call answers that is lent a table with this word at the target's offset
module _ (s : State) (table : List ℕ) (t site : FlashWord) (p : RamByte) (word : ℕ)
    (reads : s.config.jt.0 ≤ t.0 → table_word s.config t < table_words → get_or table (table_word s.config t) 0 ≡ word) where
  rows_by_word : call_rows s table t site p ≡ word_rows s word t site p
  rows_by_word =
      by_test (good_site s.config s.domain site)
      (λ from. by_test (is_local s.config t) (λ h. rw (from, h))
      (λ h. sym (cross_rest s table t site p from word reads (ltb-false t.0 s.config.jt.0 h)) ∙ rw (from, h)))
      (λ from. rw from)

-- a table that has this word everywhere is one of them
table_of_rows : (s : State) (t site : FlashWord) (p : RamByte) (word : ℕ) → call_rows s (table_of word) t site p ≡ word_rows s word t site p
table_of_rows s t site p word =
    rows_by_word s (table_of word) t site p word (λ _ within. table_of_at word (table_word s.config t) within)

pub call_by_word : (s : State) (ram table : List ℕ) (t site : FlashWord) (p : RamByte) (word : ℕ) → length table ≡ table_words
    → (s.config.jt.0 ≤ t.0 → table_word s.config t < table_words → get_or table (table_word s.config t) 0 ≡ word)
    → call_of s ram table t site p ≡ call_of s ram (table_of word) t site p
call_by_word s ram table t site p word words reads =
    rw (words, table_of-length word, rows_by_word s table t site p word reads, table_of_rows s t site p word)

-- ---- what a call gives in a good state

module _ (s : State) (ram : List ℕ) (word : ℕ) (t site : FlashWord) (p : RamByte) (size : length ram ≡ ram_bytes) (good : good_state s ≡ true) where
  by_rows : call_of s ram (table_of word) t site p ≡ give (word_rows s word t site p) s ram (called s t site p) (pushed s ram t site)
  by_rows =
      rw (eq-eqb (length (table_of word)) table_words (table_of-length word), eq-eqb (length ram) ram_bytes size, good, table_of_rows s t site p word)

  pub from_outside : good_site s.config s.domain site ≡ false
      → call_of s ram (table_of word) t site p ≡ record { answer = Err SiteOutside; state = s; ram = ram }
  from_outside from = rw (by_rows, from)

  module _ (from : good_site s.config s.domain site ≡ true) where
    pub local_call : is_local s.config t ≡ true → call_of s ram (table_of word) t site p ≡ local_given s ram t site
    unfolding local_given
    local_call h = rw (by_rows, from, h)

    pub cross_call : is_local s.config t ≡ false → call_of s ram (table_of word) t site p ≡ cross_given s ram word t site p
    unfolding cross_given
    cross_call h = rw (by_rows, from, h)
