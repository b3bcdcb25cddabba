-- What a good configuration and a good state tell, as facts on numbers, and what follows for blocks, map bytes and code ranges.
-- Assumes nothing.
use Rattle.std.proofs.Common.{ℕ, zero, suc, ◌+◌, ◌-◌, ◌*◌, ◌<◌, ◌≤◌, ◌≡◌, Bool, true, false, List, [], ◌∷◌, arith, get_or, leb, ltb, leb-true, ltb-true, le-leb, lt-ltb}
use Rattle.rules.specs.declared.RamByte.{RamByte}
use Rattle.rules.specs.declared.FlashWord.{FlashWord}
use Rattle.rules.specs.declared.Range.{Range}
use Rattle.rules.specs.declared.Config.{Config}
use Rattle.rules.specs.declared.State.{State}
use Rattle.rules.specs.Memory.{ram_bytes, layout_of, block_bytes, start_of, block_of, is_multiple, blocks, heap_block, safe_block, map_bytes, map_byte, per_byte, trusted, is_domain}
use Rattle.rules.specs.Code.{empty_range, range_of, in_range, ordered, all_apart, good_site}
use Rattle.rules.specs.State.{bot_below_top, map_below_heap, heap_below_safe, safe_below_top, top_in_ram, jt_in_flash, good_config, domain_good, bound_good, safepointer_good, good_state, fresh, zeros}
use Rattle.laws.proofs.Tests.{by_test, both, each}
use Rattle.laws.proofs.Blocks.{start_lt, start_mono, start_le, lt_next, aligned, block_le, block_lt, block_from, block_before, block_small}
use Rattle.laws.proofs.Map.{map-room, map_bytes_for_pos, map_byte_lt}
use Rattle.laws.proofs.Codes.{domain_le, trusted_domain}

-- sections 2 and 3
pub record GoodConfig (c : Config) : Type 0 where
  pub bot_multiple : is_multiple c c.bot ≡ true
  pub heap_multiple : is_multiple c c.heap ≡ true
  pub safe_multiple : is_multiple c c.safe ≡ true
  pub top_multiple : is_multiple c c.top ≡ true
  pub bot<top : c.bot.0 < c.top.0
  pub map≤heap : c.bot.0 + map_bytes c ≤ c.heap.0
  pub heap≤safe : c.heap.0 ≤ c.safe.0
  pub safe≤top : c.safe.0 ≤ c.top.0
  pub top≤ram : c.top.0 ≤ ram_bytes
  pub jt≤last : c.jt.0 ≤ 64512
  pub ranges_ordered : ordered c.jt c.ranges ≡ true
  pub ranges_apart : all_apart c.ranges ≡ true

-- section 4
pub record GoodState (s : State) : Type 0 where
  pub config : GoodConfig s.config
  pub domain : is_domain s.config s.domain ≡ true
  pub top≤bound : s.config.top.0 - 1 ≤ s.bound.0
  pub bound<ram : s.bound.0 < ram_bytes
  pub safe≤safepointer : s.config.safe.0 ≤ s.safepointer.0
  pub safepointer≤top : s.safepointer.0 ≤ s.config.top.0

-- the rows of good_config below the first
abbrev rows : Config → List Bool
rows c =
    is_multiple c c.heap ∷ is_multiple c c.safe ∷ is_multiple c c.top ∷ bot_below_top c ∷ map_below_heap c ∷ heap_below_safe c ∷ safe_below_top c ∷ top_in_ram c ∷ jt_in_flash c ∷ ordered c.jt c.ranges ∷ all_apart c.ranges ∷ []

pub good_config-facts : (c : Config) → good_config c ≡ true → GoodConfig c
unfolding good_config
good_config-facts c h =
    let (b, (hm, (sm, (tm, (bt, (mh, (hs, (st, (tr, (jt, (o, a))))))))))) = each (is_multiple c c.bot) (rows c) h in
    record {
      bot_multiple = b;
      heap_multiple = hm;
      safe_multiple = sm;
      top_multiple = tm;
      bot<top = ltb-true c.bot.0 c.top.0 bt;
      map≤heap = leb-true (c.bot.0 + map_bytes c) c.heap.0 mh;
      heap≤safe = leb-true c.heap.0 c.safe.0 hs;
      safe≤top = leb-true c.safe.0 c.top.0 st;
      top≤ram = leb-true c.top.0 ram_bytes tr;
      jt≤last = leb-true c.jt.0 64512 jt;
      ranges_ordered = o;
      ranges_apart = a;
    }

pub good_config-true : (c : Config) → GoodConfig c → good_config c ≡ true
unfolding good_config
good_config-true c g =
    simp (
      g.bot_multiple,
      g.heap_multiple,
      g.safe_multiple,
      g.top_multiple,
      lt-ltb c.bot.0 c.top.0 g.bot<top,
      le-leb (c.bot.0 + map_bytes c) c.heap.0 g.map≤heap,
      le-leb c.heap.0 c.safe.0 g.heap≤safe,
      le-leb c.safe.0 c.top.0 g.safe≤top,
      le-leb c.top.0 ram_bytes g.top≤ram,
      le-leb c.jt.0 64512 g.jt≤last,
      g.ranges_ordered,
      g.ranges_apart,
    )

pub good_state-facts : (s : State) → good_state s ≡ true → GoodState s
unfolding good_state
good_state-facts s h =
    let (c, (d, (b, p))) = each (good_config s.config) (domain_good s ∷ bound_good s ∷ safepointer_good s ∷ []) h in
    let (low, high) = both (leb (s.config.top.0 - 1) s.bound.0) (ltb s.bound.0 ram_bytes) b in
    let (from, to) = both (leb s.config.safe.0 s.safepointer.0) (leb s.safepointer.0 s.config.top.0) p in
    record {
      config = good_config-facts s.config c;
      domain = d;
      top≤bound = leb-true (s.config.top.0 - 1) s.bound.0 low;
      bound<ram = ltb-true s.bound.0 ram_bytes high;
      safe≤safepointer = leb-true s.config.safe.0 s.safepointer.0 from;
      safepointer≤top = leb-true s.safepointer.0 s.config.top.0 to;
    }

pub good_state-true : (s : State) → GoodState s → good_state s ≡ true
unfolding good_state
good_state-true s g =
    simp (
      good_config-true s.config g.config,
      g.domain,
      le-leb (s.config.top.0 - 1) s.bound.0 g.top≤bound,
      lt-ltb s.bound.0 ram_bytes g.bound<ram,
      le-leb s.config.safe.0 s.safepointer.0 g.safe≤safepointer,
      le-leb s.safepointer.0 s.config.top.0 g.safepointer≤top,
    )

pub domain≤trusted : {s : State} → GoodState s → s.domain ≤ trusted
domain≤trusted {s} g = domain_le s.config s.domain g.domain

-- section 6: "a state of zeros, which is not good"
pub not_good_zeros : good_state zeros ≡ false
not_good_zeros = by_test (good_state zeros) (λ t. absurd (omega (arith, (good_state-facts zeros t).config.bot<top))) (λ f. f)

pub fresh_good : (c : Config) → good_config c ≡ true → good_state (fresh c) ≡ true
fresh_good c h =
    let g : GoodConfig c = good_config-facts c h in
    good_state-true (fresh c) (record {
      config = g;
      domain = trusted_domain c;
      top≤bound = omega arith;
      bound<ram = omega arith;
      safe≤safepointer = omega arith;
      safepointer≤top = g.safe≤top;
    })

-- ---- blocks of a good configuration

module _ {c : Config} (g : GoodConfig c) where
  pub blocks_pos : 0 < blocks c
  unfolding blocks
  blocks_pos = omega (arith, block_lt c c.bot c.top g.bot_multiple g.top_multiple (omega arith) g.bot<top)

  pub bot<heap : c.bot.0 < c.heap.0
  unfolding map_bytes
  bot<heap = omega (arith, map_bytes_for_pos (layout_of c) blocks_pos)

  pub heap_block_pos : 0 < heap_block c
  unfolding heap_block
  heap_block_pos = omega (arith, block_lt c c.bot c.heap g.bot_multiple g.heap_multiple (omega arith) bot<heap)

  pub heap_block≤safe_block : heap_block c ≤ safe_block c
  unfolding heap_block safe_block
  heap_block≤safe_block = block_le c c.heap c.safe g.heap≤safe

  pub safe_block≤blocks : safe_block c ≤ blocks c
  unfolding safe_block blocks
  safe_block≤blocks = block_le c c.safe c.top g.safe≤top

  pub heap_start : start_of c (heap_block c) ≡ c.heap.0
  unfolding heap_block
  heap_start = aligned c c.heap g.bot_multiple g.heap_multiple (omega (arith, bot<heap))

  pub safe_start : start_of c (safe_block c) ≡ c.safe.0
  unfolding safe_block
  safe_start = aligned c c.safe g.bot_multiple g.safe_multiple (omega (arith, bot<heap))

  pub top_start : start_of c (blocks c) ≡ c.top.0
  unfolding blocks
  top_start = aligned c c.top g.bot_multiple g.top_multiple (omega arith)

  -- ---- which part of the protected range an address lies in, by its block

  pub from_heap_lem : (a : RamByte) → c.heap.0 ≤ a.0 → heap_block c ≤ block_of c a
  from_heap_lem a l = block_from c a (heap_block c) (omega (arith, heap_start))

  pub to_safe_lem : (a : RamByte) → c.bot.0 ≤ a.0 → a.0 < c.safe.0 → block_of c a < safe_block c
  to_safe_lem a b u = block_before c a (safe_block c) b (omega (arith, safe_start))

  pub to_top : (a : RamByte) → c.bot.0 ≤ a.0 → a.0 < c.top.0 → block_of c a < blocks c
  to_top a b u = block_before c a (blocks c) b (omega (arith, top_start))

  pub in_heap : (a : RamByte) → c.bot.0 ≤ a.0 → heap_block c ≤ block_of c a → block_of c a < safe_block c
      → (c.heap.0 ≤ a.0) × (a.0 < c.safe.0)
  in_heap a b l u = (
    omega (arith, heap_start, start_mono c l, start_le c a b),
    omega (arith, safe_start, start_mono c u, lt_next c a),
  )

  pub block_fits : {k : ℕ} → k < blocks c → start_of c k + block_bytes c ≤ c.top.0
  block_fits h = omega (arith, start_lt c h, top_start)

  pub blocks≤ram : blocks c ≤ ram_bytes
  unfolding blocks
  blocks≤ram = omega (arith, block_small c c.top)

  -- ---- its map lies below the heap

  pub place<heap : {k : ℕ} → k < map_bytes c * per_byte (layout_of c) → map_byte (layout_of c) k < c.heap.0
  place<heap {k} h = omega (arith, map_byte_lt (layout_of c) k (map_bytes c) h)

  pub blocks≤places : blocks c ≤ map_bytes c * per_byte (layout_of c)
  unfolding map_bytes
  blocks≤places = map-room (layout_of c) (blocks c)

  pub map_byte<heap : {k : ℕ} → k < blocks c → map_byte (layout_of c) k < c.heap.0
  map_byte<heap h = place<heap (omega (arith, blocks≤places))

-- ---- its code ranges

pub in_range_lem : (r : Range) (w : FlashWord) → in_range r w ≡ true → (r.start.0 ≤ w.0) × (w.0 < r.end.0)
in_range_lem r w h =
    let (from, to) = both (leb r.start.0 w.0) (ltb w.0 r.end.0) h in
    (leb-true r.start.0 w.0 from, ltb-true w.0 r.end.0 to)

-- a place past the end of the list gives the empty range, so this holds for every d
pub ordered_at : (jt : FlashWord) (rs : List Range) → ordered jt rs ≡ true → (d : ℕ)
    → ((get_or rs d empty_range).start.0 ≤ (get_or rs d empty_range).end.0) × ((get_or rs d empty_range).end.0 ≤ jt.0)
unfolding ordered
ordered_at jt [] h d = (omega arith, omega arith)
ordered_at jt (r ∷ rs) h zero =
    let (a, (b, more)) = each (leb r.start.0 r.end.0) (leb r.end.0 jt.0 ∷ ordered jt rs ∷ []) h in
    (leb-true r.start.0 r.end.0 a, leb-true r.end.0 jt.0 b)
ordered_at jt (r ∷ rs) h (suc d) =
    ordered_at jt rs (each (leb r.start.0 r.end.0) (leb r.end.0 jt.0 ∷ ordered jt rs ∷ []) h).1.1 d

pub range_ordered : {c : Config} → GoodConfig c → (d : ℕ) → ((range_of c d).start.0 ≤ (range_of c d).end.0) × ((range_of c d).end.0 ≤ c.jt.0)
range_ordered {c} g d = ordered_at c.jt c.ranges g.ranges_ordered d

pub site_fits : {c : Config} → GoodConfig c → (d : ℕ) (w : FlashWord) → good_site c d w ≡ true → w.0 < 64512
site_fits {c} g d w h = omega (arith, (in_range_lem (range_of c d) w h).1, (range_ordered g d).1)
