-- `hmt_c::call` meets its contract.
use Rattle.std.proofs.Common.{ℕ, ◌≡◌, ◌+◌, ◌*◌, ◌<◌, List, Err, refl, sym, ◌∙◌, arith, rules}
use Rattle.rules.specs.declared.State.{State}
use Rattle.rules.specs.declared.RamByte.{RamByte}
use Rattle.rules.specs.declared.FlashWord.{FlashWord}
use Rattle.rules.specs.Bytes.{word_at}
use Rattle.rules.specs.Code.{table_words, table_word}
use Rattle.rules.specs.Operations.{call_of}
use Rattle.rules.specs.Slot.{table_in}
use Rattle.laws.proofs.Good.{good_state-facts, domain≤trusted}
use Rattle.laws.proofs.Bytes.{length-words_at, get_or-words_at}
use Rattle.operations.specs.CallRows.{table_of}
use Rattle.operations.proofs.CallRows.{call_by_word}
use Rattle.hmt_c.proofs.call.Goals as goal

-- a call looks at no word of its table but one, which is read at its place among the bytes
by_bytes : (s : State) (ram table : List ℕ) (t site : FlashWord) (p : RamByte) (at word : ℕ)
    → (table_word s.config t < table_words → at ≡ table_word s.config t) → word ≡ word_at table (2 * at)
    → call_of s ram (table_in table) t site p ≡ call_of s ram (table_of word) t site p
by_bytes s ram table t site p at word is read =
    let e : 0 + 2 * table_word s.config t ≡ 2 * table_word s.config t = omega arith in
    call_by_word s ram (table_in table) t site p word (length-words_at table 0 table_words)
    (λ from to. (rw e at (get_or-words_at table 0 table_words (table_word s.config t) to)) ∙ sym (rw (is to) at read))

pub code_range-code-requires : goal.code_range-code-requires
code_range-code-requires c = (omega arith, domain≤trusted (good_state-facts _ c.args.good.good))

pub returns-in_err-done : goal.returns-in_err-done
returns-in_err-done c =
    let same = by_bytes c.args.good.state c.args.ram.now c.args.table.now c.args.target c.args.site c.args.pointer _ _ c.table_word-at.ensures.1 c.word_at-word.ensures in
    let (a, s, r) = rw (sym same) at c.in_err-done.ensures in
    let err : c.from_residual.result ≡ Err c.in_err-done.field-0.0 = search rules in
    rw err (a, r, refl)

pub returns : goal.returns
returns c =
    let same = by_bytes c.args.good.state c.args.ram.now c.args.table.now c.args.target c.args.site c.args.pointer _ _ c.table_word-at.ensures.1 c.word_at-word.ensures in
    let (a, s, r) = rw (sym same) at c.in_ok-done.ensures in
    (a, r, rw s at c.change.ensures)
