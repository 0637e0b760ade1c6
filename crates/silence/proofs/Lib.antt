-- Demand 3, proved: the hold in samples, what 9 accepts, one sample, its counter against its history, what calls keep and count; then the whole. And W10's count.
pub mod Hold
pub mod Accepted
pub mod OneSample
pub mod Counter
pub mod Along
pub mod Count
pub mod Silence
pub mod Quiet
pub mod Unheard
