-- `record_walk::record_end` meets its contract: each step goes past one field of the image. Assumes nothing.
use Prim.Native.Nat.{ℕ, ◌+◌, ◌≤◌}
use mathlib.Core.Path.{◌≡◌, ◌∙◌}
use mathlib.Core.List.{List}
use mathlib.Core.Bool.{true}
use lib.ListN.{length}
use Rattle.codec.proofs.CodecLaws.{Bytes, bytes_all}
use Rattle.record_walk.specs.Walk.{At, past_text, ids_end}
use Rattle.record_walk.proofs.Images.{map_here}
use Rattle.record_walk.proofs.Tails
use Rattle.record_walk.proofs.record_end.Goals as goal

-- each step's place
module _ (s : List ℕ) (p : ℕ) (k : Bytes s) (x : At s p) (i : ℕ) (e : i ≡ ids_end s p) where
  target_here : past_text s (i + 1) true ≤ length s
  target_here = rw (Tails.target_past s p k x (i + 1) (Tails.target_is s p k x i e)) (Tails.local_uri_at s p k x).here

  at_local_uri : (u : ℕ) → u ≡ past_text s (i + 1) true → u ≡ Tails.local_uri_start s p k x
  at_local_uri u q = q ∙ Tails.target_past s p k x (i + 1) (Tails.target_is s p k x i e)

  local_uri_here : (u : ℕ) → u ≡ past_text s (i + 1) true → past_text s u true ≤ length s
  local_uri_here u q = rw (Tails.local_uri_past s p k x u (at_local_uri u q)) (Tails.remote_uri_at s p k x).here

  at_remote_uri : (u v : ℕ) → u ≡ past_text s (i + 1) true → v ≡ past_text s u true → v ≡ Tails.remote_uri_start s p k x
  at_remote_uri u v q r = r ∙ Tails.local_uri_past s p k x u (at_local_uri u q)

  remote_uri_here : (u v : ℕ) → u ≡ past_text s (i + 1) true → v ≡ past_text s u true → past_text s v true ≤ length s
  remote_uri_here u v q r = rw (Tails.remote_uri_past s p k x v (at_remote_uri u v q r)) (Tails.numbers_at_lem s p k x).here

  at_numbers : (u v w : ℕ) → u ≡ past_text s (i + 1) true → v ≡ past_text s u true → w ≡ past_text s v true → w ≡ Tails.numbers s p k x
  at_numbers u v w q r t = t ∙ Tails.remote_uri_past s p k x v (at_remote_uri u v q r)

pub two-m-requires : goal.two-m-requires
two-m-requires c = let a = c.args in map_here a.bytes.now a.p (bytes_all a.bytes.now (λ i. (c.type_inv.bytes i).fits)) c.requires

pub past-local_uri-requires : goal.past-local_uri-requires
past-local_uri-requires c = let a = c.args in target_here a.bytes.now a.p (bytes_all a.bytes.now (λ i. (c.type_inv.bytes i).fits)) c.requires c.ids_end-target.result c.ids_end-target.ensures.0

pub past-remote_uri-requires : goal.past-remote_uri-requires
past-remote_uri-requires c = let a = c.args in local_uri_here a.bytes.now a.p (bytes_all a.bytes.now (λ i. (c.type_inv.bytes i).fits)) c.requires c.ids_end-target.result c.ids_end-target.ensures.0 c.past-local_uri.result c.past-local_uri.ensures

pub past-numbers-requires : goal.past-numbers-requires
past-numbers-requires c = let a = c.args in remote_uri_here a.bytes.now a.p (bytes_all a.bytes.now (λ i. (c.type_inv.bytes i).fits)) c.requires c.ids_end-target.result c.ids_end-target.ensures.0 c.past-local_uri.result c.past-remote_uri.result c.past-local_uri.ensures c.past-remote_uri.ensures

pub returns-then-m-eq0 : goal.returns-then-m-eq0
returns-then-m-eq0 c =
    let a = c.args in
    let k = bytes_all a.bytes.now (λ i. (c.type_inv.bytes i).fits) in
    let n = at_numbers a.bytes.now a.p k c.requires c.ids_end-target.result c.ids_end-target.ensures.0 c.past-local_uri.result c.past-remote_uri.result c.past-numbers.result c.past-local_uri.ensures c.past-remote_uri.ensures c.past-numbers.ensures in
    Tails.without_routes a.bytes.now a.p k c.requires c.two-m.result c.past-numbers.result c.two-m.ensures.0 n c.if-m-eq0.true

pub bounds-bytes-routes : goal.bounds-bytes-routes
bounds-bytes-routes c =
    let a = c.args in
    let k = bytes_all a.bytes.now (λ i. (c.type_inv.bytes i).fits) in
    let n = at_numbers a.bytes.now a.p k c.requires c.ids_end-target.result c.ids_end-target.ensures.0 c.past-local_uri.result c.past-remote_uri.result c.past-numbers.result c.past-local_uri.ensures c.past-remote_uri.ensures c.past-numbers.ensures in
    Tails.count_here a.bytes.now a.p k c.requires c.two-m.result c.past-numbers.result c.two-m.ensures.0 n c.if-m-eq0.false

pub texts_end-requires : goal.texts_end-requires
texts_end-requires c =
    let a = c.args in
    let k = bytes_all a.bytes.now (λ i. (c.type_inv.bytes i).fits) in
    let n = at_numbers a.bytes.now a.p k c.requires c.ids_end-target.result c.ids_end-target.ensures.0 c.past-local_uri.result c.past-remote_uri.result c.past-numbers.result c.past-local_uri.ensures c.past-remote_uri.ensures c.past-numbers.ensures in
    rw (Tails.texts_end_lem a.bytes.now a.p k c.requires c.two-m.result c.past-numbers.result c.two-m.ensures.0 n c.if-m-eq0.false c.wide.result c.wide.ensures.0) (Tails.end_here a.bytes.now a.p k c.requires)

pub returns : goal.returns
returns c =
    let a = c.args in
    let k = bytes_all a.bytes.now (λ i. (c.type_inv.bytes i).fits) in
    let n = at_numbers a.bytes.now a.p k c.requires c.ids_end-target.result c.ids_end-target.ensures.0 c.past-local_uri.result c.past-remote_uri.result c.past-numbers.result c.past-local_uri.ensures c.past-remote_uri.ensures c.past-numbers.ensures in
    c.texts_end.ensures ∙ Tails.texts_end_lem a.bytes.now a.p k c.requires c.two-m.result c.past-numbers.result c.two-m.ensures.0 n c.if-m-eq0.false c.wide.result c.wide.ensures.0
