-- one job alone on what is left; what a batch has done after some of its turns; a slice that is lent again; what an
-- entry tells; Const and Override
pub mod Alone
pub mod Turns
pub mod Entries
pub mod Stages
