-- The bits of a record's map. Assumes nothing.
use Prim.Native.Nat.{ℕ, ◌+◌, ◌*◌, ◌/◌, ◌%◌, ◌≤◌, ◌<◌}
use native.Mathlib.Omega.{arith}
use mathlib.Core.Path.{◌≡◌, refl, ap, ◌∙◌}
use mathlib.Core.Bool.{Bool, true, false}
use lib.Dec.{eqb, ltb}
use Rattle.record.specs.Record.{bit_of, stands, Fields, is_filled, is_given, map_of}

pub bit_le : (b : Bool) → bit_of b ≤ 1
bit_le true = omega arith
bit_le false = omega arith

bit_is : (b : Bool) → eqb (bit_of b) 1 ≡ b
bit_is true = refl
bit_is false = refl

-- the map as a sum of powers times bits
abbrev sum : ℕ → ℕ → ℕ → ℕ → ℕ → ℕ → ℕ → ℕ → ℕ → ℕ
sum a b c g h i j k l = a + 2 * b + 4 * c + 120 + (128 * g + 256 * h + 512 * i + 1024 * j + 2048 * k + 4096 * l)

module _ (a b c g h i j k l : ℕ) (ha : a ≤ 1) (hb : b ≤ 1) (hc : c ≤ 1) (hg : g ≤ 1) (hh : h ≤ 1) (hi : i ≤ 1) (hj : j ≤ 1) (hk : k ≤ 1) (hl : l ≤ 1) where
  pub at_0 : sum a b c g h i j k l / 1 % 2 ≡ a
  at_0 = omega arith

  pub at_1 : sum a b c g h i j k l / 2 % 2 ≡ b
  at_1 = omega arith

  pub at_2 : sum a b c g h i j k l / 4 % 2 ≡ c
  at_2 = omega arith

  pub at_7 : sum a b c g h i j k l / 128 % 2 ≡ g
  at_7 = omega arith

  pub at_8 : sum a b c g h i j k l / 256 % 2 ≡ h
  at_8 = omega arith

  pub at_12 : sum a b c g h i j k l / 4096 % 2 ≡ l
  at_12 = omega arith

  pub at_9 : sum a b c g h i j k l / 512 % 2 ≡ i
  at_9 = omega arith

  pub at_10 : sum a b c g h i j k l / 1024 % 2 ≡ j
  at_10 = omega arith

  pub at_11 : sum a b c g h i j k l / 2048 % 2 ≡ k
  at_11 = omega arith

  pub map_small : sum a b c g h i j k l < 65536
  map_small = omega arith

-- each bit of a map stands exactly if its field is there
module _ (f : Fields) where
  abbrev call_id : Bool
  call_id = is_filled f.first.first

  abbrev local_tag : Bool
  local_tag = is_filled f.first.second.first

  abbrev remote_tag : Bool
  remote_tag = is_filled f.first.second.second

  abbrev local : Bool
  local = ltb 0 f.second.second.second.first

  abbrev remote : Bool
  remote = ltb 0 f.second.second.second.second.first

  abbrev last_ack : Bool
  last_ack = is_given f.second.second.second.second.second.first

  abbrev seconds : Bool
  seconds = is_given f.second.second.second.second.second.second.first

  abbrev refresher : Bool
  refresher = is_given f.second.second.second.second.second.second.second.first

  abbrev routes : Bool
  routes = is_filled f.second.second.second.second.second.second.second.second

  pub stands_0 : stands 0 (map_of f) ≡ call_id
  unfolding map_of
  stands_0 = ap (λ (x : ℕ). eqb x 1) (at_0 (bit_of call_id) (bit_of local_tag) (bit_of remote_tag) (bit_of local) (bit_of remote) (bit_of last_ack) (bit_of seconds) (bit_of refresher) (bit_of routes) (bit_le call_id) (bit_le local_tag) (bit_le remote_tag) (bit_le local) (bit_le remote) (bit_le last_ack) (bit_le seconds) (bit_le refresher) (bit_le routes)) ∙ bit_is call_id

  pub stands_1 : stands 1 (map_of f) ≡ local_tag
  unfolding map_of
  stands_1 = ap (λ (x : ℕ). eqb x 1) (at_1 (bit_of call_id) (bit_of local_tag) (bit_of remote_tag) (bit_of local) (bit_of remote) (bit_of last_ack) (bit_of seconds) (bit_of refresher) (bit_of routes) (bit_le call_id) (bit_le local_tag) (bit_le remote_tag) (bit_le local) (bit_le remote) (bit_le last_ack) (bit_le seconds) (bit_le refresher) (bit_le routes)) ∙ bit_is local_tag

  pub stands_2 : stands 2 (map_of f) ≡ remote_tag
  unfolding map_of
  stands_2 = ap (λ (x : ℕ). eqb x 1) (at_2 (bit_of call_id) (bit_of local_tag) (bit_of remote_tag) (bit_of local) (bit_of remote) (bit_of last_ack) (bit_of seconds) (bit_of refresher) (bit_of routes) (bit_le call_id) (bit_le local_tag) (bit_le remote_tag) (bit_le local) (bit_le remote) (bit_le last_ack) (bit_le seconds) (bit_le refresher) (bit_le routes)) ∙ bit_is remote_tag

  pub stands_7 : stands 7 (map_of f) ≡ local
  unfolding map_of
  stands_7 = ap (λ (x : ℕ). eqb x 1) (at_7 (bit_of call_id) (bit_of local_tag) (bit_of remote_tag) (bit_of local) (bit_of remote) (bit_of last_ack) (bit_of seconds) (bit_of refresher) (bit_of routes) (bit_le call_id) (bit_le local_tag) (bit_le remote_tag) (bit_le local) (bit_le remote) (bit_le last_ack) (bit_le seconds) (bit_le refresher) (bit_le routes)) ∙ bit_is local

  pub stands_8 : stands 8 (map_of f) ≡ remote
  unfolding map_of
  stands_8 = ap (λ (x : ℕ). eqb x 1) (at_8 (bit_of call_id) (bit_of local_tag) (bit_of remote_tag) (bit_of local) (bit_of remote) (bit_of last_ack) (bit_of seconds) (bit_of refresher) (bit_of routes) (bit_le call_id) (bit_le local_tag) (bit_le remote_tag) (bit_le local) (bit_le remote) (bit_le last_ack) (bit_le seconds) (bit_le refresher) (bit_le routes)) ∙ bit_is remote

  pub stands_9 : stands 9 (map_of f) ≡ last_ack
  unfolding map_of
  stands_9 = ap (λ (x : ℕ). eqb x 1) (at_9 (bit_of call_id) (bit_of local_tag) (bit_of remote_tag) (bit_of local) (bit_of remote) (bit_of last_ack) (bit_of seconds) (bit_of refresher) (bit_of routes) (bit_le call_id) (bit_le local_tag) (bit_le remote_tag) (bit_le local) (bit_le remote) (bit_le last_ack) (bit_le seconds) (bit_le refresher) (bit_le routes)) ∙ bit_is last_ack

  pub stands_10 : stands 10 (map_of f) ≡ seconds
  unfolding map_of
  stands_10 = ap (λ (x : ℕ). eqb x 1) (at_10 (bit_of call_id) (bit_of local_tag) (bit_of remote_tag) (bit_of local) (bit_of remote) (bit_of last_ack) (bit_of seconds) (bit_of refresher) (bit_of routes) (bit_le call_id) (bit_le local_tag) (bit_le remote_tag) (bit_le local) (bit_le remote) (bit_le last_ack) (bit_le seconds) (bit_le refresher) (bit_le routes)) ∙ bit_is seconds

  pub stands_11 : stands 11 (map_of f) ≡ refresher
  unfolding map_of
  stands_11 = ap (λ (x : ℕ). eqb x 1) (at_11 (bit_of call_id) (bit_of local_tag) (bit_of remote_tag) (bit_of local) (bit_of remote) (bit_of last_ack) (bit_of seconds) (bit_of refresher) (bit_of routes) (bit_le call_id) (bit_le local_tag) (bit_le remote_tag) (bit_le local) (bit_le remote) (bit_le last_ack) (bit_le seconds) (bit_le refresher) (bit_le routes)) ∙ bit_is refresher

  pub stands_12 : stands 12 (map_of f) ≡ routes
  unfolding map_of
  stands_12 = ap (λ (x : ℕ). eqb x 1) (at_12 (bit_of call_id) (bit_of local_tag) (bit_of remote_tag) (bit_of local) (bit_of remote) (bit_of last_ack) (bit_of seconds) (bit_of refresher) (bit_of routes) (bit_le call_id) (bit_le local_tag) (bit_le remote_tag) (bit_le local) (bit_le remote) (bit_le last_ack) (bit_le seconds) (bit_le refresher) (bit_le routes)) ∙ bit_is routes

  pub map_fits : map_of f < 65536
  unfolding map_of
  map_fits = map_small (bit_of call_id) (bit_of local_tag) (bit_of remote_tag) (bit_of local) (bit_of remote) (bit_of last_ack) (bit_of seconds) (bit_of refresher) (bit_of routes) (bit_le call_id) (bit_le local_tag) (bit_le remote_tag) (bit_le local) (bit_le remote) (bit_le last_ack) (bit_le seconds) (bit_le refresher) (bit_le routes)
