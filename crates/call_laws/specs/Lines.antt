-- Lines by their keys: a write that shifts none keeps keys, so that order and look-up stay; on a sheet in order the line of a record's key is that record.
use Rattle.std.specs.Prelude.{◌≡◌, ◌&&◌, ◌||◌, ◌∷◌}
use Rattle.std.proofs.Common.{◌∙◌}
use Rattle.lists.specs.Basics.{refl, sym, ap, ap₂, ℕ, Bool, true, false, cond, true≢false, List, [], map, Option, none, some, all}
use Rattle.lists.specs.Basics.{any, and_fst, and_snd, and_both, choose_by, or_left, or_right}
use Rattle.lists.specs.All.{map_unmoved}
use Rattle.model.specs.Types.{Key, Record, Decision, Entry}
use Rattle.model.specs.Records.{key_less, in_order, rising, same_key, keys_in, absent_at, line_of}
use Rattle.model.specs.Images.{prepared_by, prepared, committed, rolled_forward, rolled_back, change_of}
use Rattle.model.specs.Writes.{Write, nothing, issue, decide, commit, prepare, forward, back, add_line, remove_line, entry_for, by_entry, is_of, line_after, inserted, without, shifted, lines_after}
use Rattle.sheet_laws.specs.AddedLines.{line_after-adding, line_after-removing}
use Rattle.sheet_laws.specs.KeyOrder.{same_key_lem, same_key_refl, lists_key, unlisted, apart}

-- Keys are kept.

entry_key : (o : Option Entry) (r : Record) (f : Entry → Record) → ((e : Entry) → (f e).key ≡ r.key) → (by_entry o r f).key ≡ r.key
entry_key none r f h = refl
entry_key (some e) r f h = h e

-- no write changes the key of a line
pub line_key : (w : Write) (r : Record) → (line_after w r).key ≡ r.key
unfolding line_after prepared committed rolled_forward rolled_back
line_key nothing r = refl
line_key issue r = refl
line_key (decide n d) r = refl
line_key (commit n es) r = entry_key (entry_for r.key es) r (λ (e : Entry). committed n (change_of e) r) (λ e. refl)
line_key (prepare n now es) r = entry_key (entry_for r.key es) r (λ (e : Entry). prepared n now (change_of e) r) (λ e. refl)
line_key (forward n ks) r = choose_by (λ (x : Record). x.key ≡ r.key) (is_of n ks r) (λ e. refl) (λ e. refl)
line_key (add_line k) r = refl
line_key (remove_line k) r = refl
line_key (back n ks) r = choose_by (λ (x : Record). x.key ≡ r.key) (is_of n ks r) (λ e. refl) (λ e. refl)

module _ (f : Record → Record) (kept : (r : Record) → (f r).key ≡ r.key) where
  order_kept : (r : Record) (rs : List Record) → in_order (f r) (map f rs) ≡ in_order r rs
  unfolding in_order
  order_kept r [] = refl
  order_kept r (x ∷ rs) = ap₂ key_less (kept r) (kept x)

  pub rising_kept : (rs : List Record) → rising (map f rs) ≡ rising rs
  unfolding rising
  rising_kept [] = refl
  rising_kept (r ∷ rs) = ap₂ ◌&&◌ (order_kept r rs) (rising_kept rs)

  pub lists_kept : (k : Key) (rs : List Record) → lists_key k (map f rs) ≡ lists_key k rs
  unfolding any
  lists_kept k [] = refl
  lists_kept k (r ∷ rs) = ap₂ ◌||◌ (ap (λ (x : Key). same_key x k) (kept r)) (lists_kept k rs)

  -- the line of a key that has one, after a map that keeps keys
  pub line_mapped : (k : Key) (rs : List Record) → lists_key k rs ≡ true → line_of k (map f rs) ≡ f (line_of k rs)
  unfolding line_of any
  line_mapped k [] h = absurd (true≢false (sym h))
  line_mapped k (r ∷ rs) h =
      ap (λ (x : Key). cond (same_key x k) (f r) (line_of k (map f rs))) (kept r) ∙ go (same_key r.key k) h (line_mapped k rs)
    where
      go : (b : Bool) → (b || lists_key k rs) ≡ true → (lists_key k rs ≡ true → line_of k (map f rs) ≡ f (line_of k rs)) → cond b (f r) (line_of k (map f rs)) ≡ f (cond b r (line_of k rs))
      go true g e = refl
      go false g e = e g

-- A write, by key.

-- it puts a line in or takes one out, so that others shift
abbrev pub shifts : Write → Bool
shifts nothing = false
shifts issue = false
shifts (decide n d) = false
shifts (commit n es) = false
shifts (prepare n now es) = false
shifts (forward n ks) = false
shifts (back n ks) = false
shifts (add_line k) = true
shifts (remove_line k) = true

-- any other write goes line by line
pub lines_mapped : (w : Write) (rs : List Record) → shifts w ≡ false → lines_after w rs ≡ map (line_after w) rs
unfolding lines_after shifted
lines_mapped nothing rs h = refl
lines_mapped issue rs h = refl
lines_mapped (decide n d) rs h = refl
lines_mapped (commit n es) rs h = refl
lines_mapped (prepare n now es) rs h = refl
lines_mapped (forward n ks) rs h = refl
lines_mapped (back n ks) rs h = refl
lines_mapped (add_line k) rs h = absurd (true≢false h)
lines_mapped (remove_line k) rs h = absurd (true≢false h)

pub lines_added : (k : Key) (rs : List Record) → lines_after (add_line k) rs ≡ inserted k rs
unfolding lines_after shifted line_after
lines_added k rs = ap (inserted k) (map_unmoved (λ (r : Record). r) (λ r. refl) rs)

pub lines_removed : (k : Key) (rs : List Record) → lines_after (remove_line k) rs ≡ without k rs
unfolding lines_after shifted line_after
lines_removed k rs = ap (without k) (map_unmoved (λ (r : Record). r) (λ r. refl) rs)

pub lists_after_lem : (w : Write) (k : Key) (rs : List Record) → shifts w ≡ false → lists_key k (lines_after w rs) ≡ lists_key k rs
lists_after_lem w k rs h = ap (lists_key k) (lines_mapped w rs h) ∙ lists_kept (line_after w) (line_key w) k rs

pub rising-after : (w : Write) (rs : List Record) → shifts w ≡ false → rising (lines_after w rs) ≡ rising rs
rising-after w rs h = ap rising (lines_mapped w rs h) ∙ rising_kept (line_after w) (line_key w) rs

pub lines_unmoved : (w : Write) → shifts w ≡ false → ((r : Record) → line_after w r ≡ r) → (rs : List Record) → lines_after w rs ≡ rs
lines_unmoved w s h rs = lines_mapped w rs s ∙ map_unmoved (line_after w) h rs

pub keys_after_lem : (w : Write) (rs : List Record) → shifts w ≡ false → keys_in (lines_after w rs) ≡ keys_in rs
keys_after_lem w rs s = ap keys_in (lines_mapped w rs s) ∙ go rs
  where
    go : (rs : List Record) → keys_in (map (line_after w) rs) ≡ keys_in rs
    go [] = refl
    go (r ∷ rs) = ap₂ ◌∷◌ (line_key w r) (go rs)

-- a write that goes line by line, keys without a line included: the line of a key becomes what the write makes of a line
abbrev pub Linewise : List Record → Write → Type 0
Linewise rs w = (k : Key) → line_of k (lines_after w rs) ≡ line_after w (line_of k rs)

-- as a write is that leaves keys without a line as they are
pub linewise : (rs : List Record) (w : Write) → shifts w ≡ false → ((k : Key) → lists_key k rs ≡ false → line_after w (absent_at k) ≡ absent_at k) → Linewise rs w
linewise rs w s still k = ap (line_of k) (lines_mapped w rs s) ∙ go (lists_key k rs) refl
  where
    go : (b : Bool) → lists_key k rs ≡ b → line_of k (map (line_after w) rs) ≡ line_after w (line_of k rs)
    go true h = line_mapped (line_after w) (line_key w) k rs h
    go false h =
        unlisted k (map (line_after w) rs) (lists_kept (line_after w) (line_key w) k rs ∙ h)
        ∙ (sym (still k h) ∙ ap (line_after w) (sym (unlisted k rs h)))

-- the writes that put nothing
pub nothing_linewise : (rs : List Record) → Linewise rs nothing
unfolding line_after
nothing_linewise rs = linewise rs nothing refl (λ k h. refl)

pub issue_linewise : (rs : List Record) → Linewise rs issue
unfolding line_after
issue_linewise rs = linewise rs issue refl (λ k h. refl)

pub decide_linewise : (rs : List Record) (n : ℕ) (d : Decision) → Linewise rs (decide n d)
unfolding line_after
decide_linewise rs n d = linewise rs (decide n d) refl (λ k h. refl)

pub forward_linewise : (rs : List Record) (n : ℕ) (ks : List Key) → Linewise rs (forward n ks)
unfolding line_after is_of prepared_by
forward_linewise rs n ks = linewise rs (forward n ks) refl (λ k h. refl)

pub back_linewise : (rs : List Record) (n : ℕ) (ks : List Key) → Linewise rs (back n ks)
unfolding line_after is_of prepared_by
back_linewise rs n ks = linewise rs (back n ks) refl (λ k h. refl)

-- a line for a key that had none, and an ABSENT line of version 0 taken away: no key's line changes, one without a line counting as such
pub add_linewise : (rs : List Record) (k : Key) → lists_key k rs ≡ false → Linewise rs (add_line k)
unfolding line_after
add_linewise rs k n j = ap (line_of j) (lines_added k rs) ∙ line_after-adding k j rs n

pub remove_linewise : (rs : List Record) (k : Key) → rising rs ≡ true → line_of k rs ≡ absent_at k → Linewise rs (remove_line k)
unfolding line_after
remove_linewise rs k o a j = ap (line_of j) (lines_removed k rs) ∙ line_after-removing k j rs o a

-- The line of a key.

pub line_of_key : (k : Key) (rs : List Record) → (line_of k rs).key ≡ k
unfolding line_of
line_of_key k [] = refl
line_of_key k (r ∷ rs) = choose_by (λ (x : Record). x.key ≡ k) (same_key r.key k) (λ e. same_key_lem r.key k e) (λ e. line_of_key k rs)

-- A fact about a sheet in order, built line by line from a fact about each record that is the line of its key.
each_line : (Q : Record → Type 0) (P : List Record → Type 0) (rs : List Record) → rising rs ≡ true → P [] → ((r : Record) (ls : List Record) → Q r → P ls → P (r ∷ ls)) → ((r : Record) → lists_key r.key rs ≡ true → line_of r.key rs ≡ r → Q r) → P rs
unfolding rising any line_of
each_line Q P [] h base more f = base
each_line Q P (r ∷ rs) h base more f =
    more r rs
    (f r (or_left (same_key r.key r.key) (lists_key r.key rs) (same_key_refl r.key)) (ap (λ (b : Bool). cond b r (line_of r.key rs)) (same_key_refl r.key)))
    (each_line Q P rs (and_snd (in_order r rs) (rising rs) h) base more
    (λ x g e. f x (or_right (same_key r.key x.key) (lists_key x.key rs) g)
    (ap (λ (b : Bool). cond b r (line_of x.key rs)) (apart r rs x.key h g) ∙ e)))

-- every line passes a test that each record passes that is the line of its key
pub all_lines : (p : Record → Bool) (rs : List Record) → rising rs ≡ true → ((r : Record) → lists_key r.key rs ≡ true → line_of r.key rs ≡ r → p r ≡ true) → all p rs ≡ true
unfolding all
all_lines p rs h = each_line (λ (r : Record). p r ≡ true) (λ (ls : List Record). all p ls ≡ true) rs h refl (λ r ls e g. and_both e g)

-- what all lines pass, the line of a key passes
pub line_passes : (p : Record → Bool) (k : Key) (rs : List Record) → all p rs ≡ true → lists_key k rs ≡ true → p (line_of k rs) ≡ true
unfolding all any line_of
line_passes p k [] h g = absurd (true≢false (sym g))
line_passes p k (r ∷ rs) h g =
    go (same_key r.key k) g (line_passes p k rs (and_snd (p r) (all p rs) h))
  where
    go : (b : Bool) → (b || lists_key k rs) ≡ true → (lists_key k rs ≡ true → p (line_of k rs) ≡ true) → p (cond b r (line_of k rs)) ≡ true
    go true e f = and_fst (p r) (all p rs) h
    go false e f = f e

-- a map that leaves alone each record that is the line of its key leaves a sheet in order alone
pub map-lines : (f : Record → Record) (rs : List Record) → rising rs ≡ true → ((r : Record) → lists_key r.key rs ≡ true → line_of r.key rs ≡ r → f r ≡ r) → map f rs ≡ rs
map-lines f rs h = each_line (λ (r : Record). f r ≡ r) (λ (ls : List Record). map f ls ≡ ls) rs h refl (λ r ls e g. ap₂ ◌∷◌ e g)
