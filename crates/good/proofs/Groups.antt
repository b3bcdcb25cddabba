-- The rules of a configuration in the groups in which the code tests them, and what a loop over the ranges has left.
-- Assumes nothing.
use Prim.Native.Nat.{ℕ, suc, ◌+◌, ◌-◌, ◌≤◌, ◌<◌}
use mathlib.Core.Path.{◌≡◌, refl, sym, ◌∙◌}
use mathlib.Core.Bool.{Bool, true, false, ◌&&◌, and-true, and-false, and_assoc, and_comm}
use mathlib.Core.List.{List, ◌∷◌}
use native.Mathlib.Omega.{arith}
use native.Mathlib.Numerals.{add-one}
use lib.Dec.{leb}
use lib.ListN.{length, get_or, drop, drop_of_length-le}
use lib.Seq.{drop-cons}
use borrow.Author.Tests.{lt-ltb, le-ltb, le-leb, lt-leb, ne_eqb}
use Rattle.rules.specs.declared.FlashWord.{FlashWord}
use Rattle.rules.specs.declared.Range.{Range}
use Rattle.rules.specs.declared.Config.{Config}
use Rattle.rules.specs.declared.State.{State}
use Rattle.rules.specs.Memory.{ram_bytes, layout_of, block_of, blocks, map_bytes}
use Rattle.rules.specs.Code.{empty_range, ordered, apart, apart_from, all_apart}
use Rattle.rules.specs.State.{multiples, bot_below_top, map_below_heap, heap_below_safe, safe_below_top, top_in_ram, jt_in_flash, ranges_ordered, ranges_apart, good_config, domain_good, bound_good, safepointer_good, good_state}
use Rattle.laws.proofs.Map.{map_bytes_for_le}
use Rattle.laws.proofs.Blocks.{block_small}
use Rattle.laws.proofs.Tests.{both, left_false, right_false, left_true}

-- the order of the four addresses
abbrev pub in_order : Config → Bool
in_order c = bot_below_top c && map_below_heap c && heap_below_safe c && safe_below_top c && top_in_ram c

-- all of section 2
abbrev pub bounds_good : Config → Bool
bounds_good c = multiples c && bot_below_top c && map_below_heap c && heap_below_safe c && safe_below_top c && top_in_ram c

-- everything but that order
abbrev pub rest_good : Config → Bool
rest_good c = multiples c && (jt_in_flash c && (ranges_ordered c && ranges_apart c))

swapped : (m o r : Bool) → (m && (o && r)) ≡ (o && (m && r))
swapped true o r = refl
swapped false o r = sym (and-false o)

module _ (c : Config) where
  bounds_parts : bounds_good c ≡ (multiples c && in_order c)
  bounds_parts = simp and_assoc

  config_parts : good_config c ≡ (bounds_good c && (jt_in_flash c && (ranges_ordered c && ranges_apart c)))
  unfolding good_config
  config_parts = simp and_assoc

  pub not_bounds : bounds_good c ≡ false → false ≡ good_config c
  not_bounds h = sym (config_parts ∙ left_false (bounds_good c) _ h)

  by_order : good_config c ≡ (in_order c && rest_good c)
  unfolding good_config
  by_order = (simp and_assoc) ∙ swapped (multiples c) (in_order c) (jt_in_flash c && (ranges_ordered c && ranges_apart c))

  pub not_rest : rest_good c ≡ false → false ≡ good_config c
  not_rest h = sym (by_order ∙ right_false (in_order c) _ h)

  pub order_decides : rest_good c ≡ true → in_order c ≡ good_config c
  order_decides h = sym (by_order ∙ and_comm (in_order c) (rest_good c) ∙ left_true (rest_good c) _ h)

  pub in_bounds : bounds_good c ≡ true → (multiples c ≡ true) × (in_order c ≡ true)
  in_bounds h = both (multiples c) (in_order c) (sym bounds_parts ∙ h)

  pub rest_decides : bounds_good c ≡ true → rest_good c ≡ good_config c
  rest_decides h = sym (by_order ∙ left_true (in_order c) _ (in_bounds h).1)

-- the sum of bot and the map's length fits sixteen bits
pub end_fits : (c : Config) → c.bot.0 < c.top.0 → c.top.0 ≤ ram_bytes → c.bot.0 + map_bytes c < 65536
unfolding map_bytes blocks
end_fits c bt tr = omega (arith, map_bytes_for_le (layout_of c) (block_of c c.top), block_small c c.top)

-- where the other bounds hold, the map's end decides
pub end_decides : (c : Config) → c.bot.0 < c.top.0 → c.heap.0 ≤ c.safe.0 → c.safe.0 ≤ c.top.0 → c.top.0 ≤ ram_bytes
    → leb (c.bot.0 + map_bytes c) c.heap.0 ≡ in_order c
end_decides c bt hs st tr = simp (lt-ltb _ _ bt, le-leb _ _ hs, le-leb _ _ st, le-leb _ _ tr, and-true)

-- domain, bound and safe pointer
abbrev pub run_good : State → Bool
run_good s = domain_good s && bound_good s && safepointer_good s

-- a state, by its fields
module _ (s : State) where
  pub bound_above : ram_bytes ≤ s.bound.0 → false ≡ run_good s
  bound_above h = simp (le-ltb _ _ h, and-false)

  pub bound_below : s.bound.0 + 1 < s.config.top.0 → false ≡ run_good s
  bound_below h = simp (lt-leb (s.config.top.0 - 1) s.bound.0 (omega arith), and-false)

  pub pointer_below : s.safepointer.0 < s.config.safe.0 → false ≡ run_good s
  pointer_below h = simp (lt-leb _ _ h, and-false)

  pub pointer_decides : domain_good s ≡ true → s.bound.0 < ram_bytes → s.config.top.0 ≤ s.bound.0 + 1
      → s.config.safe.0 ≤ s.safepointer.0 → leb s.safepointer.0 s.config.top.0 ≡ run_good s
  pointer_decides d b t l =
      simp (d, lt-ltb _ _ b, le-leb (s.config.top.0 - 1) s.bound.0 (omega arith), le-leb _ _ l)

  state_parts : good_state s ≡ (run_good s && good_config s.config)
  unfolding good_state
  state_parts = (simp and_assoc) ∙ and_comm (good_config s.config) (run_good s)

  pub not_run : run_good s ≡ false → false ≡ good_state s
  not_run h = sym (state_parts ∙ left_false (run_good s) _ h)

  pub not_config : good_config s.config ≡ false → false ≡ good_state s
  not_config h = sym (state_parts ∙ right_false (run_good s) _ h)

  pub config_decides : run_good s ≡ true → good_config s.config ≡ good_state s
  config_decides h = sym (state_parts ∙ left_true (run_good s) _ h)

-- where no earlier way of being apart holds, the last decides
pub last_decides : (r q : Range) → (r.start.0 ≡ r.end.0 → ⊥) → (q.start.0 ≡ q.end.0 → ⊥) → q.start.0 < r.end.0
    → leb q.end.0 r.start.0 ≡ apart r q
last_decides r q a b d = simp (ne_eqb _ _ a, ne_eqb _ _ b, lt-leb _ _ d)

-- ---- loops over the ranges: what is left decides

-- whether ranges are ordered and apart
abbrev pub ranges_good : FlashWord → List Range → Bool
ranges_good jt rs = ordered jt rs && all_apart rs

-- the tests of a range come before those of what is left
regroup : (a b o f p : Bool) → ((a && b && o) && (f && p)) ≡ (a && (b && (f && (o && p))))
regroup false b o f p = refl
regroup true false o f p = refl
regroup true true o false p = and-false o
regroup true true o true p = refl

pub range_cons : (jt : FlashWord) (r : Range) (rs : List Range)
    → ranges_good jt (r ∷ rs) ≡ (leb r.start.0 r.end.0 && (leb r.end.0 jt.0 && (apart_from r rs && ranges_good jt rs)))
unfolding ordered all_apart
range_cons jt r rs = regroup (leb r.start.0 r.end.0) (leb r.end.0 jt.0) (ordered jt rs) (apart_from r rs) (all_apart rs)

-- the range at a place among them
module _ (rs : List Range) (i : ℕ) (lt : i < length rs) (r : Range) (is : r ≡ get_or rs i empty_range) where
  pub from_step : (q : Range) → apart_from q (drop i rs) ≡ (apart q r && apart_from q (drop (i + 1) rs))
  unfolding apart_from
  from_step q = rw (is, add-one, drop-cons rs i empty_range)

  pub range_step : (jt : FlashWord)
      → ranges_good jt (drop i rs)
      ≡ ((leb r.start.0 r.end.0 && leb r.end.0 jt.0) && (apart_from r (drop (i + 1) rs) && ranges_good jt (drop (i + 1) rs)))
  range_step jt =
      rw (is, add-one, drop-cons rs i empty_range, and_assoc) (range_cons jt (get_or rs i empty_range) (drop (suc i) rs))

module _ (rs : List Range) (i : ℕ) (end : length rs ≤ i) where
  pub from_end : (r : Range) → apart_from r (drop i rs) ≡ true
  unfolding apart_from
  from_end r = rw (drop_of_length-le rs end)

  pub range_end : (jt : FlashWord) → ranges_good jt (drop i rs) ≡ true
  unfolding ordered all_apart
  range_end jt = rw (drop_of_length-le rs end)
