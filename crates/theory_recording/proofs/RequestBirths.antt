-- How many objects the requests in flight make.
use Rattle.std.proofs.Common.{◌≡◌, ℕ, suc, ◌+◌, ◌≤◌, Bool, List, [], ◌∷◌, ◌++◌, arith}
use Rattle.theory_connection.specs.Meant.{Born}
use Rattle.theory_connection.specs.World.{Row}
use Rattle.theory_connection.specs.Flight.{Rows, Ask, Use, Make, Destroy, Tell, ReadsInFlight, Tied}
use Rattle.theory_connection.specs.Flight.{drained, use_, make, destroy, give_back, MeetInMiddle}
use Rattle.theory_connection.proofs.Flight.{counts_after}
use Rattle.theory_recording.specs.Leads as leads
use Rattle.theory_recording.specs.Leads.{Leads}

abbrev makes_in : List Ask → ℕ
makes_in [] = 0
makes_in (Use x ∷ qs) = makes_in qs
makes_in (Make x ∷ qs) = suc (makes_in qs)
makes_in (Destroy x ∷ qs) = makes_in qs

makes_more : (qs rs : List Ask) → makes_in (qs ++ rs) ≡ makes_in qs + makes_in rs
makes_more [] rs = omega arith
makes_more (Use x ∷ qs) rs = makes_more qs rs
makes_more (Make x ∷ qs) rs = omega (arith, makes_more qs rs)
makes_more (Destroy x ∷ qs) rs = makes_more qs rs

module _ {test : Born → Bool} where
  leads_births : {qs : List Ask} {v w : Rows Row} → Leads test qs v w → w.births ≡ v.births + makes_in qs
  leads_births leads.done = omega arith
  leads_births (leads.use_ a b r) = leads_births r
  leads_births (leads.make a r) = omega (arith, leads_births r)
  leads_births (leads.destroy z a b r) = leads_births r

  tied_births : {qs : List Ask} {s : Rows Born} {m : Rows Row} → Tied test qs s m → m.births ≡ s.births + makes_in qs
  tied_births (drained same rows u b c) = omega (arith, b)
  tied_births (use_ a b t) = tied_births t
  tied_births (make a t) = omega (arith, tied_births t)
  tied_births (destroy z l a b c t) = tied_births t
  tied_births (give_back l a b c t) = tied_births t

  -- the recording is ahead of the server, since the server reads only what was recorded
  pub recorded_first : {es fs : List Tell} (qs rs : List Ask) {here client common : Rows Row} {s : Rows Born}
      → Leads test rs here common → ReadsInFlight test es client common → MeetInMiddle test fs (qs ++ rs) client s
      → s.births ≤ here.births
  recorded_first qs rs l r m =
      let a = leads_births l in
      let b = (counts_after r).1 in
      let c = (counts_after m.reads).1 in
      let d = tied_births m.tied in
      omega (arith, a, b, c, d, makes_more qs rs)
