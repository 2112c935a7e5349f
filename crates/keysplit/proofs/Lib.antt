mod MiddleKeys
