-- Demand 3's clauses on the remote number, the routes and the state of one record since its latest accepted put (document 01, "The book of demand 3"), said of any list
-- of calls, whatever they are on: one store, several, or joined records. A history sees of a call only its data, whether it was taken, and the record held under each key
-- before and after it. A trace has the LATEST step first.
use Rattle.std.specs.Prelude.{ℕ, suc, ◌+◌, ◌≤◌, ◌≡◌, ◌≢◌, Bool, true, false, cond, ◌&&◌, List, [], ◌∷◌, length, None, Option, Some}
use Rattle.text.specs.Text.{equal}
use Rattle.record.specs.Record.{State, early, confirmed, terminated, Record}

abbrev pub All : {A : Type 0} → (A → Type 0) → List A → Type 0
All P [] = Unit {0}
All P (x ∷ xs) = P x × All P xs

abbrev pub or_earlier : {A : Type 0} → Option A → Option A → Option A
or_earlier None earlier = earlier
or_earlier (Some x) earlier = Some x

abbrev pub is_some : Option Record → Bool
is_some None = false
is_some (Some r) = true

-- "States go on from Early to Confirmed to Terminated"
abbrev pub stage : State → ℕ
stage early = 1
stage confirmed = 2
stage terminated = 3

-- the same routes, in the same order
unfoldable pub same_routes : List (List ℕ) → List (List ℕ) → Bool
same_routes [] [] = true
same_routes [] (y ∷ ys) = false
same_routes (x ∷ xs) [] = false
same_routes (x ∷ xs) (y ∷ ys) = equal x y && same_routes xs ys

-- the calls, and the keys under which records are held
pub record Course : Type 1 where
  pub Call : Type 0
  pub Key : Type 0
  -- what a taken call says of a key's remote number, if anything: a put the number put, a request other than ACK that names the key its CSeq
  pub says : Key → Call → Option ℕ
  -- the record that a put of the key puts
  pub put_of : Key → Call → Option Record
  -- the call is a 2xx response to the record
  pub IsSuccess : Call → Record → Type 0

module _ (S : Course) where
  pub record Step : Type 0 where
    pub call : S.Call
    pub taken : Bool
    pub was : S.Key → Option Record
    pub now : S.Key → Option Record

  -- ---- the remote number: of the last request other than ACK that named the key and was taken since its latest accepted put, or else the number put
  unfoldable pub remote_by : S.Key → List Step → Option ℕ
  remote_by i [] = None
  remote_by i (e ∷ es) = cond e.taken (or_earlier (S.says i e.call) (remote_by i es)) (remote_by i es)

  unfoldable pub last_put : S.Key → List Step → Option Record
  last_put i [] = None
  last_put i (e ∷ es) = cond e.taken (or_earlier (S.put_of i e.call) (last_put i es)) (last_put i es)

  -- the step is an accepted put of the key
  abbrev pub puts_anew : S.Key → Step → Bool
  puts_anew i e = e.taken && is_some (S.put_of i e.call)

  unfoldable pub calls_since : S.Key → List Step → ℕ
  calls_since i [] = 0
  calls_since i (e ∷ es) = cond (puts_anew i e) 0 (suc (calls_since i es))

  -- ---- the moments since the latest accepted put
  pub record Moment : Type 0 where
    pub call : S.Call
    pub was : Record
    pub now : Record

  abbrev pub between : S.Call → Option Record → Option Record → List Moment → List Moment
  between c None new ms = []
  between c (Some was) None ms = []
  between c (Some was) (Some now) ms = record { call = c; was = was; now = now } ∷ ms

  unfoldable pub moments : S.Key → List Step → List Moment
  moments i [] = []
  moments i (e ∷ es) = cond (puts_anew i e) [] (between e.call (e.was i) (e.now i) (moments i es))

  abbrev pub Leads : Record → List Moment → Record → Type 0
  Leads p [] r = p ≡ r
  Leads p (m ∷ ms) r = (m.now ≡ r) × Leads p ms m.was

  -- one moment for each call since the latest accepted put, from the record put to the record held
  pub record Story (i : S.Key) (r : Record) (es : List Step) : Type 0 where
    pub origin : Record
    pub was_put : last_put i es ≡ Some origin
    pub leads : Leads origin (moments i es) r
    pub every_call : length (moments i es) ≡ calls_since i es

  abbrev pub Forward : Moment → Type 0
  Forward m = stage m.was.numbers.state ≤ stage m.now.numbers.state

  abbrev pub route_changes : List Moment → ℕ
  route_changes [] = 0
  route_changes (m ∷ ms) = cond (same_routes m.was.routes m.now.routes) 0 1 + route_changes ms

  pub record Confirms (m : Moment) : Type 0 where
    pub from_early : m.was.numbers.state ≡ early
    pub to_confirmed : m.now.numbers.state ≡ confirmed
    pub success : S.IsSuccess m.call m.was

  abbrev pub OnlyConfirming : Moment → Type 0
  OnlyConfirming m = m.was.routes ≢ m.now.routes → Confirms m

  -- ---- the claim about one key, of the record that is held at the end
  pub record Told (i : S.Key) (held : Option Record) (es : List Step) : Type 0 where
    pub remote_rule : (r : Record) → held ≡ Some r → remote_by i es ≡ Some r.numbers.remote
    pub story : (r : Record) → held ≡ Some r → Story i r es
    pub routes_once : route_changes (moments i es) ≤ 1
    pub routes_confirming : All OnlyConfirming (moments i es)
    pub forward : All Forward (moments i es)
