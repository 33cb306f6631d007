-- The messages of a recording, judged and followed one after another.
use Rattle.std.proofs.Common.{◌≡◌, ◌∙◌, ◌+◌, ◌<◌, ◌≤◌, ℕ, Bool, true, false, not, List, [], ◌∷◌, ◌++◌, None, Global, refl, sym}
use Rattle.std.proofs.Common.{ap, ap₂, get_or, length, map, subst, take, take_all}
use Rattle.std.proofs.lemmas.List.{map_more}
use Rattle.wl_sigs.specs.Tables.{Interface}
use Rattle.wl_message.specs.declared.limit.Limit.{Limit}
use Rattle.wl_message.specs.Cut.{front}
use Rattle.wl_recording.specs.declared.piece.Direction.{Direction}
use Rattle.wl_recording.specs.declared.piece.Direction.TheVariants.{ToServer, ToClient}
use Rattle.wl_recording.specs.declared.piece.Passed.{Passed}
use Rattle.wl_recording.specs.Piece.{Piece, recorded_piece}
use Rattle.wl_check.specs.declared.following.Followed.{Followed}
use Rattle.wl_check.specs.declared.following.Follower.{Follower}
use Rattle.wl_check.specs.FollowedBytes.{FollowedBytes}
use Rattle.wl_check.specs.Following.{IsFollowed, IsNewFollower, WasFed, WentPast, bytes_in, other, size_ahead}
use Rattle.wl_check.specs.Inspected.{HasPassed}
use Rattle.wl_check.specs.Seen.{size_of}
use Rattle.wl_check.specs.Session.{messages, session_of}
use Rattle.wl_check.specs.Trace.{lasting}
use Rattle.program_jobs.specs.declared.inspecting.Inspection.{Inspection}
use Rattle.program_jobs.specs.declared.inspecting.Noted.{Noted}
use Rattle.program_jobs.specs.Inspecting.{HasFollowed, HasInspected, HasNoMore, IsFollowing, IsInspecting, MayFollow}
use Rattle.program_jobs.specs.Inspecting.{begun, fed, noted_after, noted_none, over, past}

-- ---- what is ahead

none_in_nothing : (limit : ℕ) → size_of (front limit []) ≡ None
unfolding front
none_in_nothing limit = refl

none_ahead_of : (limit : ℕ) (bytes : FollowedBytes) → bytes.waiting ≡ [] → size_of (front limit bytes.waiting) ≡ None
none_ahead_of limit bytes empty = ap (λ (l : List ℕ). size_of (front limit l)) empty ∙ none_in_nothing limit

new_has_no_more : (tables : List Interface) (limit : ℕ) (f : Follower Global) → IsNewFollower tables limit f
    → HasNoMore f
new_has_no_more tables limit f new ToServer =
    none_ahead_of f.limit.bytes f.to_server (ap (λ (b : FollowedBytes). b.waiting) new.to_server)
new_has_no_more tables limit f new ToClient =
    none_ahead_of f.limit.bytes f.to_client (ap (λ (b : FollowedBytes). b.waiting) new.to_client)

same_ahead : (f g : Follower Global) (direction : Direction) → g.limit ≡ f.limit
    → bytes_in g direction ≡ bytes_in f direction → size_ahead g direction ≡ size_ahead f direction
same_ahead f g direction limits bytes =
    ap₂ (λ (limit : Limit) (b : FollowedBytes). size_of (front limit.bytes b.waiting)) limits bytes

both_done : (f : Follower Global) (direction : Direction) → size_ahead f direction ≡ None
    → size_ahead f (other direction) ≡ None → HasNoMore f
both_done f ToServer own rest ToServer = own
both_done f ToServer own rest ToClient = rest
both_done f ToClient own rest ToServer = rest
both_done f ToClient own rest ToClient = own

-- ---- steps

-- before the first piece
pub inspects_none : (limit : ℕ) (tables : List Interface) (i : Inspection) → i.limit.bytes ≡ limit
    → i.tables.now ≡ tables → HasPassed limit tables [] i.inspector → IsNewFollower tables limit i.follower
    → i.noted ≡ noted_none → IsInspecting limit tables [] i
inspects_none limit tables i limits same passed new none = record {
  inspected = record {
    limit_is = limits;
    tables_are = same;
    passed = passed;
    followed = subst (λ (noted : Noted). HasFollowed limit tables [] noted i.follower) (sym none)
        (begun i.follower new);
  };
  whole = λ goes_on. new_has_no_more tables limit i.follower new;
}

module _ (limit : ℕ) (tables : List Interface) (pieces : List Piece) (direction : Direction) (i : Inspection)
    (r : IsFollowing limit tables pieces direction i) where
  -- no message is left
  pub none_left : size_ahead i.follower direction ≡ None → IsInspecting limit tables pieces i
  none_left none = record {
    inspected = r.inspected;
    whole = λ goes_on. both_done i.follower direction none r.none;
  }

  -- one more message was passed over
  pub went_past : (j : Inspection) (message : Followed) → IsFollowed i.follower direction message
      → WentPast direction i.follower j.follower
      → j.noted ≡ noted_after limit tables (lasting (messages tables (session_of limit pieces))) direction
      i.follower.held message i.noted
      → j.limit ≡ i.limit → j.tables.now ≡ i.tables.now → j.inspector ≡ i.inspector
      → MayFollow (not j.noted.has_error) limit tables pieces direction j
  went_past j message ahead went noted limits same inspectors = by j.noted.has_error refl
    where
      inspected : HasInspected limit tables pieces j
      inspected = record {
        limit_is = ap (λ (l : Limit). l.bytes) limits ∙ r.inspected.limit_is;
        tables_are = same ∙ r.inspected.tables_are;
        passed = rw inspectors r.inspected.passed;
        followed = subst (λ (n : Noted). HasFollowed limit tables pieces n j.follower) (sym noted)
            (past pieces direction message i.noted i.follower j.follower r.inspected.followed r.goes_on ahead went);
      }

      by : (has_error : Bool) → j.noted.has_error ≡ has_error
          → MayFollow (not has_error) limit tables pieces direction j
      by true e = record { inspected = inspected; whole = λ none. absurd (cc (e, none)) }
      by false e = record {
        inspected = inspected;
        goes_on = e;
        none = same_ahead i.follower j.follower (other direction) went.limit went.rest ∙ r.none;
      }

-- what a step says of more messages
pub no_more : (limit : ℕ) (tables : List Interface) (pieces : List Piece) (direction : Direction) (i : Inspection)
    (more : Bool) → more ≡ false → MayFollow more limit tables pieces direction i → IsInspecting limit tables pieces i
no_more limit tables pieces direction i true none may = absurd (cc none)
no_more limit tables pieces direction i false none may = may

pub some_more : (limit : ℕ) (tables : List Interface) (pieces : List Piece) (direction : Direction) (i : Inspection)
    (more : Bool) → more ≡ true → MayFollow more limit tables pieces direction i
    → IsFollowing limit tables pieces direction i
some_more limit tables pieces direction i true none may = may
some_more limit tables pieces direction i false none may = absurd (cc none)

-- what is noted, by the tables and the limit of an inspection
pub noted_by : (limit : ℕ) (tables : List Interface) (pieces : List Piece) (i : Inspection)
    → HasInspected limit tables pieces i → (judged : ℕ) (direction : Direction) (message : Followed) (noted : Noted)
    → noted ≡ noted_after i.limit.bytes i.tables.now judged direction i.follower.held message i.noted
    → noted ≡ noted_after limit tables judged direction i.follower.held message i.noted
noted_by limit tables pieces i r judged direction message noted is =
    is ∙ ap₂ (λ (n : ℕ) (all : List Interface). noted_after n all judged direction i.follower.held message i.noted)
    r.limit_is r.tables_are

module _ (limit : ℕ) (tables : List Interface) (pieces : List Piece) (piece : Piece) (i j : Inspection)
    (r : IsInspecting limit tables pieces i) (limits : j.limit ≡ i.limit) (same : j.tables.now ≡ i.tables.now)
    (passed : HasPassed limit tables (pieces ++ piece ∷ []) j.inspector) (noted : j.noted ≡ i.noted) where
  -- one more piece was judged, and the session has ended
  pub piece_over : j.follower ≡ i.follower → i.noted.has_error ≡ true
      → IsInspecting limit tables (pieces ++ piece ∷ []) j
  piece_over still ended = record {
    inspected = record {
      limit_is = ap (λ (l : Limit). l.bytes) limits ∙ r.inspected.limit_is;
      tables_are = same ∙ r.inspected.tables_are;
      passed = passed;
      followed = rw (noted, still) (over pieces piece i.noted i.follower r.inspected.followed ended);
    };
    whole = λ goes_on. let e = ap (λ (n : Noted). n.has_error) noted in absurd (cc (e, ended, goes_on));
  }

  -- one more piece was judged, and came to the follower
  pub piece_came : i.noted.has_error ≡ false → WasFed piece.direction piece.bytes i.follower j.follower
      → IsFollowing limit tables (pieces ++ piece ∷ []) piece.direction j
  piece_came goes_on came = record {
    inspected = record {
      limit_is = ap (λ (l : Limit). l.bytes) limits ∙ r.inspected.limit_is;
      tables_are = same ∙ r.inspected.tables_are;
      passed = passed;
      followed = subst (λ (n : Noted). HasFollowed limit tables (pieces ++ piece ∷ []) n j.follower) (sym noted)
          (fed pieces piece i.noted i.follower j.follower r.inspected.followed goes_on (r.whole goes_on) came);
    };
    goes_on = ap (λ (n : Noted). n.has_error) noted ∙ goes_on;
    none = same_ahead i.follower j.follower (other piece.direction) came.limit came.rest
        ∙ r.whole goes_on (other piece.direction);
  }

-- all pieces of a list
pub inspects_all : {A : Type 0} (limit : ℕ) (tables : List Interface) (all : List (Passed A)) (k : ℕ)
    (pieces : List Piece) (i : Inspection) → length all ≤ k → map recorded_piece all ≡ pieces
    → IsInspecting limit tables (map recorded_piece (take k all)) i → IsInspecting limit tables pieces i
inspects_all limit tables all k pieces i le same is = subst (λ (ps : List Piece). IsInspecting limit tables ps i)
    (ap (map recorded_piece) (take_all k all le) ∙ same) is

-- one more piece of a list
pub inspects_more : {A : Type 0} (limit : ℕ) (tables : List Interface) (all : List (Passed A)) (k : ℕ) (piece : Passed A)
    (i : Inspection) → k < length all → piece ≡ get_or all k piece
    → IsInspecting limit tables (map recorded_piece (take k all) ++ recorded_piece piece ∷ []) i
    → IsInspecting limit tables (map recorded_piece (take (k + 1) all)) i
inspects_more limit tables all k piece i lt at is = rw (map_more recorded_piece all k piece lt, ← at) is
