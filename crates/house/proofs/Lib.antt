pub mod Forms
pub mod Tables
pub mod Records
pub mod Places
pub mod Against
pub mod Left
pub mod Answers
pub mod Refusing
