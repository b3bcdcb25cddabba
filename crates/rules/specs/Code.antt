-- Section 3: code and jump tables.
use Rattle.std.specs.Prelude.{ℕ, ◌-◌, ◌/◌, Bool, true, not, ◌&&◌, ◌||◌, List, [], ◌∷◌, get_or, leb, ltb, eqb}
use Rattle.rules.specs.declared.FlashWord.{FlashWord}
use Rattle.rules.specs.declared.Range.{Range}
use Rattle.rules.specs.declared.Config.{Config}

-- "for each of eight domains"
abbrev pub domains : ℕ
domains = 8

-- "128 for each domain in order 0 to 7", 1,024 words in all
abbrev pub domain_words : ℕ
domain_words = 128

abbrev pub table_words : ℕ
table_words = 1024

abbrev pub flash_word : ℕ → FlashWord
flash_word n = record { 0 = n }

abbrev pub empty_range : Range
empty_range = record { start = flash_word 0; end = flash_word 0 }

-- the code range of domain d
abbrev pub range_of : Config → ℕ → Range
range_of c d = get_or c.ranges d empty_range

-- "start up to but not including end"
abbrev pub in_range : Range → FlashWord → Bool
in_range r w = leb r.start.0 w.0 && ltb w.0 r.end.0

-- "start <= end <= jt"
unfoldable pub ordered : FlashWord → List Range → Bool
ordered jt [] = true
ordered jt (r ∷ rs) = leb r.start.0 r.end.0 && leb r.end.0 jt.0 && ordered jt rs

abbrev pub is_empty : Range → Bool
is_empty r = eqb r.start.0 r.end.0

-- "Ranges that are not empty must not overlap": of two, one is empty or ends where or before the other starts
abbrev pub apart : Range → Range → Bool
apart r q = is_empty r || is_empty q || leb r.end.0 q.start.0 || leb q.end.0 r.start.0

unfoldable pub apart_from : Range → List Range → Bool
apart_from r [] = true
apart_from r (q ∷ qs) = apart r q && apart_from r qs

unfoldable pub all_apart : List Range → Bool
all_apart [] = true
all_apart (r ∷ rs) = apart_from r rs && all_apart rs

-- "A target below jt is a local call."
abbrev pub is_local : Config → FlashWord → Bool
is_local c t = ltb t.0 c.jt.0

-- "domain (t - jt) / 128, table word t - jt"
abbrev pub table_word : Config → FlashWord → ℕ
table_word c t = t.0 - c.jt.0

abbrev pub called_domain : Config → FlashWord → ℕ
called_domain c t = table_word c t / domain_words

abbrev pub entry_of : Config → List ℕ → FlashWord → FlashWord
entry_of c table t = flash_word (get_or table (table_word c t) 0)

-- "An entry is good if it is not 0", "and lies in that domain's code range."
abbrev pub good_entry : Config → List ℕ → FlashWord → Bool
good_entry c table t = not (eqb (entry_of c table t).0 0) && in_range (range_of c (called_domain c t)) (entry_of c table t)

-- section 5: "The return site must lie in the current domain's code range", at a call; at a return, in that of "the domain returned to"
abbrev pub good_site : Config → ℕ → FlashWord → Bool
good_site c d site = in_range (range_of c d) site
