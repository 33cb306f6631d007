-- Which sizes given by C an end can have.
use Rattle.std.specs.Prelude.{◌≡◌, ℕ, ◌≤◌, nat_eq, if◌then◌else◌}
use Rattle.wl_message.specs.declared.amounts.Sizes.{Sizes}
use Rattle.wl_message.specs.Cut.{usual_limit, IsLimit}
use Rattle.waywire_c.specs.declared.values.CSizes.{CSizes}

-- the limit that a number means: 0 is the usual one
abbrev pub limit_in_c : CSizes → ℕ
limit_in_c sizes = if nat_eq sizes.limit 0 then usual_limit else sizes.limit

-- An end can have these sizes.
pub record AreAllowed (sizes : CSizes) : Type 0 where
  pub limit : IsLimit (limit_in_c sizes)
  pub out_bytes : sizes.out_bytes ≤ 16777216
  pub out_tokens : sizes.out_tokens ≤ 65536
  pub in_bytes_low : limit_in_c sizes ≤ sizes.in_bytes
  pub in_bytes : sizes.in_bytes ≤ 16777216
  pub in_tokens_low : 20 ≤ sizes.in_tokens
  pub in_tokens : sizes.in_tokens ≤ 65536

-- These are the sizes of an end for those given by C.
pub record AreSizesOf (of : CSizes) (sizes : Sizes) : Type 0 where
  pub out_bytes : sizes.out_bytes ≡ of.out_bytes
  pub out_tokens : sizes.out_tokens ≡ of.out_tokens
  pub in_bytes : sizes.in_bytes ≡ of.in_bytes
  pub in_tokens : sizes.in_tokens ≡ of.in_tokens
  pub limit : sizes.limit.bytes ≡ limit_in_c of

-- An end is in the state of a new one with the sizes given by C, as `new` gives it.
pub record IsNewBy {State : Type 0} (new : Sizes → State) (of : CSizes) (state : State) : Type 0
  where
    pub sizes : Sizes
    pub sizes_are : AreSizesOf of sizes
    pub state_is : state ≡ new sizes
